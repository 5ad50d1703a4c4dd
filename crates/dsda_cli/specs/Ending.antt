-- How a run ends, and what stands then. `sure` is the fact that the devices fail at nothing but the take of a name that
-- isn't held: then no put and no push fails.
use Rattle.std.specs.Prelude.{◌≡◌, ◌≢◌, ◌≤◌, ◌⊎◌, ℕ, List, [], Option, Some, None, IfSome}
use Rattle.doom_edge.specs.Counts.{Rose}
use Rattle.doom_edge.specs.Costs.{Rises}
use Rattle.doom_edge.specs.Devices.{Files, bound, but_for, grown, GrewByPrefix}
use Rattle.doom_edge.specs.declared.shelf.Shelf as shelf
use Rattle.doom_edge.specs.declared.sink.Sink as sink
use Rattle.dsda_cli.specs.Refusal.{line_of}
use Rattle.dsda_cli.specs.Meaning.{Outcome, Misused, Unheld, Refusal, Reported, Means, IsMeaning}
use Rattle.dsda_cli.specs.declared.status.Status.{Status}
use Rattle.dsda_cli.specs.declared.status.Status.TheVariants as status

-- the number that the program ends with
abbrev pub number_of : Status → ℕ
number_of status.Done = 0
number_of (status.Refused fault) = 1
number_of status.Usage = 2
number_of status.ReadFault = 3
number_of status.WriteFault = 4
number_of status.NoteFault = 5
number_of status.Memory = 6

-- What is seen of a shelf and a sink: what they hold and got, where they tell, and how often their calls failed.
pub record Seen : Type 0 where
  pub files : Option Files
  pub takes : ℕ
  pub puts : ℕ
  pub text : Option (List ℕ)
  pub pushes : ℕ

abbrev pub seen : {S N : Type 0} → shelf.Ghosts S → sink.Ghosts N → S → N → Seen
seen S N shelf note = record {
  files = S.holds shelf;
  takes = S.take_faults shelf;
  puts = S.put_faults shelf;
  text = N.got note;
  pushes = N.faults note;
}

-- the status of an outcome, where no device fails and there is memory
abbrev pub status_of : Outcome → Status
status_of Misused = status.Usage
status_of Unheld = status.ReadFault
status_of (Refusal fault) = status.Refused fault
status_of (Reported report put cost) = status.Done

-- the text that an outcome pushes
abbrev pub told_of : Outcome → List ℕ
told_of Misused = []
told_of Unheld = []
told_of (Refusal fault) = line_of fault
told_of (Reported report put cost) = report

-- the name and the bytes that an outcome puts
abbrev pub put_of : Outcome → Option (List ℕ × List ℕ)
put_of Misused = None
put_of Unheld = None
put_of (Refusal fault) = None
put_of (Reported report put cost) = put

-- the files after a put, if there is one
abbrev pub with_put : Option (List ℕ × List ℕ) → Option Files → Option Files
with_put None files = files
with_put (Some put) files = bound put.0 put.1 files

-- the file was put, if there is one, and the text pushed, and nothing else was
pub record IsDelivered (put : Option (List ℕ × List ℕ)) (told : List ℕ) (before after : Seen) : Type 0 where
  pub files : after.files ≡ with_put put before.files
  pub text : after.text ≡ grown told before.text
  pub no_put : put ≡ None → after.puts ≡ before.puts
  pub no_push : told ≡ [] → after.pushes ≡ before.pushes

-- The put failed, and nothing was pushed. All other names are as before.
pub record IsWriteFault (sure : Type 0) (name : List ℕ) (before after : Seen) : Type 0 where
  pub cause : Rose before.puts after.puts
  pub unsure : sure → ⊥
  pub files : but_for name after.files ≡ but_for name before.files
  pub text : after.text ≡ before.text
  pub no_push : after.pushes ≡ before.pushes

-- no put fails where nothing is put
abbrev pub IsPutFault : Type 0 → Option (List ℕ × List ℕ) → Seen → Seen → Type 0
IsPutFault sure None before after = ⊥
IsPutFault sure (Some put) before after = IsWriteFault sure put.0 before after

-- The push failed, after the put if there is one. A front of the text was pushed, and the text isn't empty.
pub record IsNoteFault (sure : Type 0) (put : Option (List ℕ × List ℕ)) (told : List ℕ) (before after : Seen) : Type 0 where
  pub cause : Rose before.pushes after.pushes
  pub unsure : sure → ⊥
  pub files : after.files ≡ with_put put before.files
  pub text : GrewByPrefix told before.text after.text
  pub no_put : put ≡ None → after.puts ≡ before.puts
  pub pushed : told ≢ []

-- There was no memory: before the put, or after it for the push of a text that isn't empty. Nothing was pushed.
pub record IsOutOfMemory (put : Option (List ℕ × List ℕ)) (told : List ℕ) (before after : Seen) : Type 0 where
  pub files : (after.files ≡ before.files) ⊎ ((told ≢ []) × (after.files ≡ with_put put before.files))
  pub text : after.text ≡ before.text
  pub no_put : put ≡ None → after.puts ≡ before.puts

-- What stands after a status, where this is what the words come to. In a sure run only a take of a name that isn't held
-- fails.
abbrev pub EndsAs : Type 0 → Outcome → Seen → Seen → Status → Type 0
EndsAs sure outcome before after status.ReadFault = ⊥
EndsAs sure outcome before after status.WriteFault = IsPutFault sure (put_of outcome) before after
EndsAs sure outcome before after status.NoteFault = IsNoteFault sure (put_of outcome) (told_of outcome) before after
EndsAs sure outcome before after status.Memory = IsOutOfMemory (put_of outcome) (told_of outcome) before after
EndsAs sure outcome before after status.Usage =
    (status_of outcome ≡ status.Usage) × IsDelivered (put_of outcome) (told_of outcome) before after
EndsAs sure outcome before after (status.Refused fault) =
    (status_of outcome ≡ status.Refused fault) × IsDelivered (put_of outcome) (told_of outcome) before after
EndsAs sure outcome before after status.Done =
    (status_of outcome ≡ status.Done) × IsDelivered (put_of outcome) (told_of outcome) before after

-- no count of faults falls
pub record IsLater (before after : Seen) : Type 0 where
  pub takes : before.takes ≤ after.takes
  pub puts : before.puts ≤ after.puts
  pub pushes : before.pushes ≤ after.pushes

-- A take failed. Where only a name that isn't held can fail, one isn't.
pub record IsReadFault (sure : Type 0) (words : List (List ℕ)) (before after : Seen) : Type 0 where
  pub cause : Rose before.takes after.takes
  pub missing : sure → IfSome before.files (λ files. Means words files Unheld)

-- why a run stops
abbrev pub StopsBy : Type 0 → List (List ℕ) → Seen → Seen → Status → Type 0
StopsBy sure words before after status.ReadFault = IsReadFault sure words before after
StopsBy sure words before after status.Memory = Unit {0}
StopsBy sure words before after other = ⊥

-- nothing was put and nothing was pushed
pub record IsUntouched (before after : Seen) : Type 0 where
  pub files : after.files ≡ before.files
  pub text : after.text ≡ before.text
  pub no_put : after.puts ≡ before.puts
  pub no_push : after.pushes ≡ before.pushes

-- The run stops before it has found out what the words come to.
pub record Stops (sure : Type 0) (words : List (List ℕ)) (before after : Seen) (ended : Status) : Type 0 where
  pub cause : StopsBy sure words before after ended
  pub untouched : IsUntouched before after

-- the devices as they are seen, and how many tic steps were counted
pub record Moment : Type 0 where
  pub devices : Seen
  pub tics : ℕ

abbrev pub moment : {S N : Type 0} → shelf.Ghosts S → sink.Ghosts N → S → N → ℕ → Moment
moment S N shelf note tics = record { devices = seen S N shelf note; tics = tics }

-- Where the work was done, the counter of tic steps rose by no less and no more than it costs.
abbrev pub CostsAs : Outcome → ℕ → ℕ → Type 0
CostsAs (Reported report put cost) before after = Rises cost before after
CostsAs outcome before after = Unit {0}

-- The run ends as the words come to over what the shelf holds; over some texts, where the shelf doesn't tell.
pub record Concludes (sure : Type 0) (words : List (List ℕ)) (before after : Moment) (ended : Status) : Type 0 where
  pub outcome : Outcome
  pub meant : IsMeaning words before.devices.files outcome
  pub ends : EndsAs sure outcome before.devices after.devices ended
  pub costs : CostsAs outcome before.tics after.tics

-- how a run may end
pub record Ends (sure : Type 0) (words : List (List ℕ)) (before after : Moment) (ended : Status) : Type 0 where
  pub ending : Stops sure words before.devices after.devices ended ⊎ Concludes sure words before after ended
  pub later : IsLater before.devices after.devices

-- no count of faults rose
pub record IsQuiet (before after : Seen) : Type 0 where
  pub takes : Rose before.takes after.takes → ⊥
  pub puts : Rose before.puts after.puts → ⊥
  pub pushes : Rose before.pushes after.pushes → ⊥

-- the status is that of what the words come to over these files
pub record IsMeant (words : List (List ℕ)) (files : Files) (ended : Status) : Type 0 where
  pub outcome : Outcome
  pub meant : Means words files outcome
  pub as_meant : ended ≡ status_of outcome

-- So it is, or there was no memory.
abbrev pub Answers : List (List ℕ) → Option Files → Status → Type 0
Answers words told ended = IfSome told (λ files. IsMeant words files ended ⊎ (ended ≡ status.Memory))
