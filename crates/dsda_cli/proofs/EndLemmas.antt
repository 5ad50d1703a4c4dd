-- How a run ends: what the takes in front leave of it, and what its status says.
use Rattle.std.proofs.Common.{map, Result, Ok, Err, ◌≡◌, ◌≢◌, ◌≤◌, ◌⊎◌, inl, inr, ℕ, List, [], append-nil, arith, refl, ap, sym, ◌∙◌, subst, Option, Some, None, IfSome}
use Rattle.doom_edge.specs.Counts.{Rose}
use Rattle.doom_edge.specs.Costs.{Cost, free}
use Rattle.doom_edge.specs.Devices.{Files, grown}
use Rattle.doom_edge.specs.declared.shelf.TakeFault.{TakeFault}
use Rattle.doom_edge.specs.declared.shelf.TakeFault.TheVariants as take_fault
use Rattle.dsda_cli.specs.Commands.{command_of, inputs_of, out_name}
use Rattle.dsda_cli.specs.Meaning.{Output, with_cost, answer_of, contents, Outcome, Misused, Unheld, Refusal, Reported, put_under, outcome_under, Means, misused, IsMeaning, unasked}
use Rattle.dsda_cli.specs.Ending.{Seen, Moment, status_of, told_of, put_of, with_put, IsDelivered, IsPutFault, EndsAs, StopsBy, IsUntouched, Stops, Concludes, Ends, IsQuiet, Answers}
use Rattle.dsda_cli.specs.Inside.{front_of, Takes, EndsBy, status_of_take}
use Rattle.dsda_cli.specs.declared.command.Command.{Command}
use Rattle.dsda_cli.specs.declared.product.Stop.{Stop}
use Rattle.dsda_cli.specs.declared.product.Stop.TheVariants as stop
use Rattle.dsda_cli.specs.declared.status.Status.{Status}
use Rattle.dsda_cli.specs.declared.status.Status.TheVariants as status
use Rattle.dsda_cli.proofs.MeaningLemmas.{taken_meant, unheld_meant}

-- between two moments only takes were made
pub record OnlyTook (before after : Seen) : Type 0 where
  pub files : after.files ≡ before.files
  pub takes : before.takes ≤ after.takes
  pub puts : after.puts ≡ before.puts
  pub text : after.text ≡ before.text
  pub pushes : after.pushes ≡ before.pushes

delivered_behind : (put : Option (List ℕ × List ℕ)) (told : List ℕ) (before mid after : Seen) → OnlyTook before mid → IsDelivered put told mid after → IsDelivered put told before after
delivered_behind put told before mid after took ends = record {
  files = ends.files ∙ ap (with_put put) took.files;
  text = rw (← took.text) ends.text;
  no_put = λ e. ends.no_put e ∙ took.puts;
  no_push = λ e. ends.no_push e ∙ took.pushes;
}

put_fault_behind : {sure_then sure_now : Type 0} (stays : sure_then → sure_now) (put : Option (List ℕ × List ℕ)) (before mid after : Seen) → OnlyTook before mid → IsPutFault sure_now put mid after → IsPutFault sure_then put before after
put_fault_behind stays None before mid after took ends = absurd ends
put_fault_behind stays (Some put) before mid after took ends = record {
  cause = rw (← took.puts) ends.cause;
  unsure = λ sure. ends.unsure (stays sure);
  files = rw (← took.files) ends.files;
  text = ends.text ∙ took.text;
  no_push = ends.no_push ∙ took.pushes;
}

memory_behind : (put : Option (List ℕ × List ℕ)) (told : List ℕ) (before mid : Seen) (now : Option Files) → OnlyTook before mid → (now ≡ mid.files) ⊎ ((told ≢ []) × (now ≡ with_put put mid.files)) → (now ≡ before.files) ⊎ ((told ≢ []) × (now ≡ with_put put before.files))
memory_behind put told before mid now took (inl same) = inl (same ∙ took.files)
memory_behind put told before mid now took (inr put_now) = inr (put_now.0, put_now.1 ∙ ap (with_put put) took.files)

untouched_behind : (before mid after : Seen) → OnlyTook before mid → IsUntouched mid after → IsUntouched before after
untouched_behind before mid after took same = record {
  files = same.files ∙ took.files;
  text = same.text ∙ took.text;
  no_put = same.no_put ∙ took.puts;
  no_push = same.no_push ∙ took.pushes;
}

-- what stands after a status stands after it, too, where some takes were made before
pub ends_behind : {sure_then sure_now : Type 0} (stays : sure_then → sure_now) (outcome : Outcome) (before mid after : Seen) (ended : Status) → OnlyTook before mid → EndsAs sure_now outcome mid after ended → EndsAs sure_then outcome before after ended
ends_behind stays outcome before mid after status.ReadFault took ends = absurd ends
ends_behind stays outcome before mid after status.WriteFault took ends = put_fault_behind stays (put_of outcome) before mid after took ends
ends_behind stays outcome before mid after status.NoteFault took ends = record {
  cause = rw (← took.pushes) ends.cause;
  unsure = λ sure. ends.unsure (stays sure);
  files = ends.files ∙ ap (with_put (put_of outcome)) took.files;
  text = rw (← took.text) ends.text;
  no_put = λ e. ends.no_put e ∙ took.puts;
  pushed = ends.pushed;
}
ends_behind stays outcome before mid after status.Memory took ends = record {
  files = memory_behind (put_of outcome) (told_of outcome) before mid after.files took ends.files;
  text = ends.text ∙ took.text;
  no_put = λ e. ends.no_put e ∙ took.puts;
}
ends_behind stays outcome before mid after status.Usage took ends = (ends.0, delivered_behind (put_of outcome) (told_of outcome) before mid after took ends.1)
ends_behind stays outcome before mid after (status.Refused fault) took ends = (ends.0, delivered_behind (put_of outcome) (told_of outcome) before mid after took ends.1)
ends_behind stays outcome before mid after status.Done took ends = (ends.0, delivered_behind (put_of outcome) (told_of outcome) before mid after took ends.1)

-- a take that was not made stops the run
pub take_fault_stops : {sure : Type 0} (words : List (List ℕ)) (command : Command) (before after : Seen) (fault : TakeFault) → command_of words ≡ Some command → OnlyTook before after → (fault ≡ take_fault.Failed → Rose before.takes after.takes) → (fault ≡ take_fault.Failed → sure → IfSome before.files (λ files. contents files words (inputs_of command) ≡ None)) → Stops sure words before after (status_of_take fault)
take_fault_stops words command before after take_fault.Failed is took cause missing = record {
  cause = record { cause = cause refl; missing = λ sure. unheld_meant before.files words command is (missing refl sure) };
  untouched = record { files = took.files; text = took.text; no_put = took.puts; no_push = took.pushes };
}
take_fault_stops words command before after take_fault.Memory is took cause missing = record {
  cause = tt;
  untouched = record { files = took.files; text = took.text; no_put = took.puts; no_push = took.pushes };
}

-- what the work cost makes no difference to how the run ends
at_cost : (sure : Type 0) (report : List ℕ) (put : Option (List ℕ × List ℕ)) (this other : Cost) (before after : Seen) (ended : Status) → EndsAs sure (Reported report put this) before after ended → EndsAs sure (Reported report put other) before after ended
at_cost sure report put this other before after status.ReadFault ends = ends
at_cost sure report put this other before after status.WriteFault ends = ends
at_cost sure report put this other before after status.NoteFault ends = ends
at_cost sure report put this other before after status.Memory ends = ends
at_cost sure report put this other before after status.Usage ends = ends
at_cost sure report put this other before after (status.Refused fault) ends = ends
at_cost sure report put this other before after status.Done ends = ends

-- What was judged ends the run: as the words come to, or for want of memory.
pub judged_ends : {sure_then sure_now : Type 0} (stays : sure_then → sure_now) (words : List (List ℕ)) (command : Command) (texts : List (List ℕ)) (judged : Result Output Stop) (before mid after : Seen) (from to : ℕ) (ended : Status) → command_of words ≡ Some command → IfSome before.files (λ files. map (front_of files words) (inputs_of command) ≡ map Some texts) → OnlyTook before mid → Takes with_cost judged (answer_of command texts) from to → EndsBy sure_now (out_name words command) judged mid after ended
    → Stops sure_then words before after ended ⊎ Concludes sure_then words (record { devices = before; tics = from }) (record { devices = after; tics = to }) ended
judged_ends {sure_now = sure_now} stays words command texts (Ok output) before mid after from to ended is taken took takes ends =
    let outcome = outcome_under (out_name words command) (Ok (with_cost output takes.cost)) in
    inr (record {
      outcome = outcome;
      meant = taken_meant before.files words command texts (Ok (with_cost output takes.cost)) is taken takes.right;
      ends = ends_behind stays outcome before mid after ended took (at_cost sure_now output.report (put_under (out_name words command) output.demo) free takes.cost mid after ended ends);
      costs = takes.rises;
    })
judged_ends stays words command texts (Err (stop.Refused fault)) before mid after from to ended is taken took takes ends = inr (record {
  outcome = Refusal fault;
  meant = taken_meant before.files words command texts (Err fault) is taken takes.right;
  ends = ends_behind stays (Refusal fault) before mid after ended took ends;
  costs = tt;
})
judged_ends {sure_then} stays words command texts (Err stop.Memory) before mid after from to ended is taken took takes ends = inl (record {
  cause = let P : Status → Type 0 = StopsBy sure_then words before after in subst P (sym ends.0) tt;
  untouched = untouched_behind before mid after took ends.1;
})

grown_by_nothing : (text : Option (List ℕ)) → text ≡ grown [] text
grown_by_nothing None = refl
grown_by_nothing (Some text) = ap Some (sym (append-nil text))

misused_meant : (told : Option Files) (words : List (List ℕ)) → command_of words ≡ None → IsMeaning words told Misused
misused_meant None words none = unasked none refl
misused_meant (Some files) words none = misused none refl

-- words that ask for nothing end the run before it has begun
pub misused_ends : {sure : Type 0} (words : List (List ℕ)) (now : Moment) → command_of words ≡ None → Ends sure words now now status.Usage
misused_ends words now none = record {
  ending = inr (record {
    outcome = Misused;
    meant = misused_meant now.devices.files words none;
    ends = (refl, record { files = refl; text = grown_by_nothing now.devices.text; no_put = λ _. refl; no_push = λ _. refl });
    costs = tt;
  });
  later = record { takes = omega arith; puts = omega arith; pushes = omega arith };
}

answers_if : (told : Option Files) (words : List (List ℕ)) (outcome : Outcome) (ended : Status) → (ended ≡ status_of outcome) ⊎ (ended ≡ status.Memory) → IsMeaning words told outcome → Answers words told ended
answers_if None words outcome ended is meant = tt
answers_if (Some files) words outcome ended (inl is) meant = inl (record { outcome = outcome; meant = meant; as_meant = is })
answers_if (Some files) words outcome ended (inr is) meant = inr is

unheld_answers : (told : Option Files) (words : List (List ℕ)) → IfSome told (λ files. Means words files Unheld) → Answers words told status.ReadFault
unheld_answers None words missing = tt
unheld_answers (Some files) words missing = inl (record { outcome = Unheld; meant = missing; as_meant = refl })

no_put_fault : {sure : Type 0} (put : Option (List ℕ × List ℕ)) (before after : Seen) → (Rose before.puts after.puts → ⊥) ⊎ sure → IsPutFault sure put before after → ⊥
no_put_fault None before after quiet ends = ends
no_put_fault (Some put) before after (inl quiet) ends = quiet ends.cause
no_put_fault (Some put) before after (inr sure) ends = ends.unsure sure

-- where no device failed, the status is that of the outcome, or there was no memory
quiet_status : {sure : Type 0} (outcome : Outcome) (before after : Seen) (ended : Status) → IsQuiet before after ⊎ sure → EndsAs sure outcome before after ended → (ended ≡ status_of outcome) ⊎ (ended ≡ status.Memory)
quiet_status outcome before after status.Memory calm ends = inr refl
quiet_status outcome before after status.Usage calm ends = inl (sym ends.0)
quiet_status outcome before after (status.Refused fault) calm ends = inl (sym ends.0)
quiet_status outcome before after status.Done calm ends = inl (sym ends.0)
quiet_status outcome before after status.ReadFault calm ends = absurd ends
quiet_status outcome before after status.WriteFault (inl quiet) ends = absurd (no_put_fault (put_of outcome) before after (inl quiet.puts) ends)
quiet_status outcome before after status.WriteFault (inr sure) ends = absurd (no_put_fault (put_of outcome) before after (inr sure) ends)
quiet_status outcome before after status.NoteFault (inl quiet) ends = absurd (quiet.pushes ends.cause)
quiet_status outcome before after status.NoteFault (inr sure) ends = absurd (ends.unsure sure)

memory_answers : (words : List (List ℕ)) (told : Option Files) → Answers words told status.Memory
memory_answers words None = tt
memory_answers words (Some files) = inr refl

stopped_answers : {sure : Type 0} (words : List (List ℕ)) (before after : Seen) (ended : Status) → IsQuiet before after ⊎ sure → StopsBy sure words before after ended → Answers words before.files ended
stopped_answers words before after status.Memory calm cause = memory_answers words before.files
stopped_answers words before after status.ReadFault (inl quiet) cause = absurd (quiet.takes cause.cause)
stopped_answers words before after status.ReadFault (inr sure) cause = unheld_answers before.files words (cause.missing sure)
stopped_answers words before after status.Done calm cause = absurd cause
stopped_answers words before after (status.Refused fault) calm cause = absurd cause
stopped_answers words before after status.Usage calm cause = absurd cause
stopped_answers words before after status.WriteFault calm cause = absurd cause
stopped_answers words before after status.NoteFault calm cause = absurd cause

ending_answers : {sure : Type 0} (words : List (List ℕ)) (before after : Moment) (ended : Status) → IsQuiet before.devices after.devices ⊎ sure → Stops sure words before.devices after.devices ended ⊎ Concludes sure words before after ended → Answers words before.devices.files ended
ending_answers words before after ended calm (inl stops) = stopped_answers words before.devices after.devices ended calm stops.cause
ending_answers words before after ended calm (inr concludes) =
    answers_if before.devices.files words concludes.outcome ended (quiet_status concludes.outcome before.devices after.devices ended calm concludes.ends) concludes.meant

-- where no count of faults rose, or no device fails but for a name that isn't held
pub ends_answers : {sure : Type 0} (words : List (List ℕ)) (before after : Moment) (ended : Status) → IsQuiet before.devices after.devices ⊎ sure → Ends sure words before after ended → Answers words before.devices.files ended
ends_answers words before after ended calm ends = ending_answers words before after ended calm ends.ending
