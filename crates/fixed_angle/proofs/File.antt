-- What the conditions on a table file say of its kinds.
use Rattle.std.proofs.Common.{◌≡◌, inl, inr, ℕ, ◌+◌, ◌*◌, ◌<◌, List, length, Option, Some, None, subst, ap, ◌∙◌}
use Rattle.std.proofs.lemmas.List.FromFn.{length-map-range_with_len}
use Rattle.fixed_angle.specs.FirstFault.{FirstFault, for_each}
use Rattle.fixed_angle.proofs.Order.{first_after, none_each}
use Rattle.fixed_angle.specs.declared.kind.Kind.{Kind}
use Rattle.fixed_angle.specs.declared.fault.TabFault.{TabFault}
use Rattle.fixed_angle.specs.declared.fault.TabFault.TheVariants.{TabHead, TabLength, TabActor, Memory}
use Rattle.fixed_angle.specs.Tables.{IsNew}
use Rattle.fixed_angle.specs.TableFile.{entries, kind_at, kind_count, kinds_of, head_conditions, kind_conditions, table_conditions, IsCause}

pub length-entries : {X : Type 0} (read : ℕ → X) (n : ℕ) → length (entries read n) ≡ n
unfolding entries
length-entries read n = length-map-range_with_len read 0 n

-- the first fault of the file, where its head and length are right, is that of its kinds
pub kinds_judged : (bytes : List ℕ) (count : ℕ) (kinds : List Kind) (outcome : Option TabFault) → count ≡ kind_count bytes → kinds ≡ entries (λ i. kind_at bytes (49420 + 16 * i)) count → FirstFault (head_conditions bytes) None → FirstFault (for_each (length kinds) (kind_conditions kinds)) outcome → FirstFault (table_conditions bytes) outcome
kinds_judged bytes count kinds outcome counted read head judged =
    let same : kinds ≡ kinds_of bytes = read ∙ ap (entries (λ i. kind_at bytes (49420 + 16 * i))) counted in
    let many : length kinds ≡ kind_count bytes = ap length same ∙ length-entries (λ i. kind_at bytes (49420 + 16 * i)) (kind_count bytes) in
    let Of : ℕ → Type 0 = λ n. FirstFault (for_each n (kind_conditions kinds)) outcome in
    let On : List Kind → Type 0 = λ ks. FirstFault (for_each (kind_count bytes) (kind_conditions ks)) outcome in
    first_after (head_conditions bytes) (for_each (kind_count bytes) (kind_conditions (kinds_of bytes))) outcome head (subst On same (subst Of many judged))

-- a first fault is a cause
pub cause_of : (bytes : List ℕ) (fault : TabFault) → FirstFault (table_conditions bytes) (Some fault) → IsCause bytes fault
cause_of bytes TabHead first = first
cause_of bytes TabLength first = first
cause_of bytes (TabActor i) first = first
cause_of bytes Memory first = tt

is_new : (kinds : List Kind) (i : ℕ) → FirstFault (kind_conditions kinds i) None → IsNew kinds i
is_new kinds i (inl p) = p.0
is_new kinds i (inr p) = absurd cc

-- kinds without a fault have numbers of their own
pub all_new : (kinds : List Kind) → FirstFault (for_each (length kinds) (kind_conditions kinds)) None → (i : ℕ) → i < length kinds → IsNew kinds i
all_new kinds judged i lt = is_new kinds i (none_each (kind_conditions kinds) (length kinds) i lt judged)
