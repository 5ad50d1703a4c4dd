-- There is one label of a map, so what is said of its lumps is said of those behind any label.
use Rattle.std.proofs.Common.{◌≡◌, ◌⊎◌, ◌↔◌, IsTrue, ℕ, zero, suc, ◌+◌, ◌<◌, Bool, true, false, List, [], ◌∷◌, ◌++◌, length, map, Option, Some, None, All, refl, sym, ap, ◌∙◌, inl, inr, arith, subst}
use Rattle.std.proofs.lemmas.Bool.{cases_order, false≢true}
use Rattle.std.specs.List.{range_with_len}
use Rattle.std.proofs.lemmas.List.FromFn.{length-map-range_with_len, get_or-map-range_with_len}
use Rattle.fixed_angle.specs.FirstFault.{Condition, FirstFault, for_each}
use Rattle.fixed_angle.proofs.Order.{first_after, first_within, none_each}
use Rattle.wad_lumps.specs.declared.fault.WadFault.{WadFault}
use Rattle.wad_lumps.specs.declared.fault.WadFault.TheVariants.{Memory, NoMap}
use Rattle.wad_lumps.specs.declared.map.MapSpans.{MapSpans}
use Rattle.wad_lumps.specs.Directory.{entry_count, span_of, LiesIn, HasLump}
use Rattle.wad_lumps.specs.Map.{IsLast, IsLabel, lump_check, lump_conditions, map_lump_check, map_conditions, lump_spans, AreSpans, IsOtherForm, IsMap}

-- a first fault of two lists lies in the first of them, or is that of the second
first_split : {F : Type 0} (cs ds : List (Condition F)) (outcome : Option F) → FirstFault (cs ++ ds) outcome
    → (FirstFault cs None × FirstFault ds outcome) ⊎ ((fault : F) × (outcome ≡ Some fault) × FirstFault cs (Some fault))
first_split [] ds outcome p = inl (refl, p)
first_split (c ∷ cs) ds outcome (inl p) = elim (first_split cs ds outcome p.1) [
  | inl rest ↦ inl (inl (p.0, rest.0), rest.1)
  | inr within ↦ inr (within.0, within.1, inl (p.0, within.2))
]
first_split (c ∷ cs) ds outcome (inr p) = inr (c.fault, p.1, inr (p.0, refl))

-- conditions on each record that say the same have the same first fault
each_same : {F : Type 0} (g h : ℕ → List (Condition F)) → ((k : ℕ) (outcome : Option F) → FirstFault (g k) outcome → FirstFault (h k) outcome)
    → (n : ℕ) (outcome : Option F) → FirstFault (for_each n g) outcome → FirstFault (for_each n h) outcome
each_same g h same zero outcome p = p
each_same g h same (suc n) outcome p = elim (first_split (for_each n g) (g n) outcome p) [
  | inl both ↦ first_after (for_each n h) (h n) outcome (each_same g h same n None both.0) (same n outcome both.1)
  | inr within ↦ rw within.1 (first_within (for_each n h) (h n) within.0 (each_same g h same n (Some within.0) within.2))
]

-- a name has one last entry
one_last : (w name : List ℕ) (i j : ℕ) → IsLast w name i → IsLast w name j → i ≡ j
one_last w name i j p q = elim (cases_order i j) [
  | inl same ↦ same
  | inr (inl below) ↦ absurd (p.last j below q.there q.named)
  | inr (inr above) ↦ absurd (q.last i above p.there p.named)
]

-- a map has one label
pub one_label : (w : List ℕ) (episode map : ℕ) (f g : Bool) (i j : ℕ) → IsLabel w episode map f i → IsLabel w episode map g j → (f ≡ g) × (i ≡ j)
one_label w episode map false false i j p q = (refl, one_last w _ i j p q)
one_label w episode map true true i j p q = (refl, one_last w _ i j p.2 q.2)
one_label w episode map false true i j p q = absurd (q.0 i p.there p.named)
one_label w episode map true false i j p q = absurd (p.0 j q.there q.named)

same_check : (w : List ℕ) (episode map : ℕ) (form : Bool) (label : ℕ) → IsLabel w episode map form label → (k : ℕ) (outcome : Option WadFault)
    → FirstFault (lump_check w label k) outcome → FirstFault (map_lump_check w episode map k) outcome
same_check w episode map form label is k outcome (inl p) =
    inl (λ g j q. let same = one_label w episode map form g label j is q in subst (λ (x : ℕ). HasLump w (x + (k + 1))) same.1 p.0, p.1)
same_check w episode map form label is k outcome (inr p) = inr (λ holds. p.0 (holds form label is), p.1)

-- the outcome for the lumps behind the label is the outcome for the map
pub map_outcome : (w : List ℕ) (episode map : ℕ) (form : Bool) (label : ℕ) (outcome : Option WadFault) → IsLabel w episode map form label
    → FirstFault (lump_conditions w label) outcome → FirstFault (map_conditions w episode map) outcome
unfolding lump_conditions map_conditions
map_outcome w episode map form label outcome is p =
    inl ((form, (label, is)), each_same (lump_check w label) (map_lump_check w episode map) (same_check w episode map form label is) 10 outcome p)

-- a fault of a map's lumps is memory's, or the map's
pub map_fault : (w : List ℕ) (episode map : ℕ) (form : Bool) (label : ℕ) (fault : WadFault) → IsLabel w episode map form label
    → ((fault ≡ Memory) ⊎ FirstFault (lump_conditions w label) (Some fault)) → (fault ≡ Memory) ⊎ FirstFault (map_conditions w episode map) (Some fault)
map_fault w episode map form label fault is (inl memory) = inl memory
map_fault w episode map form label fault is (inr p) = inr (map_outcome w episode map form label (Some fault) is p)

-- where a map has no label, that is its fault
pub no_label : (w : List ℕ) (episode map : ℕ) → ((form : Bool) (i : ℕ) → IsLabel w episode map form i → ⊥) → FirstFault (map_conditions w episode map) (Some NoMap)
unfolding map_conditions
no_label w episode map none = inr (λ some. none some.0 some.1.0 some.1.1, refl)

-- ten lumps are all
pub ten_lumps : (w : List ℕ) (label k : ℕ) (spans : List (ℕ × ℕ)) → k ≡ 10
    → (spans ≡ map (λ e. span_of w (label + e)) (range_with_len 1 k)) × FirstFault (for_each k (lump_check w label)) None
    → (spans ≡ lump_spans w label) × FirstFault (lump_conditions w label) None
unfolding lump_conditions
ten_lumps w label k spans ten so_far = (rw ten at so_far.0, rw ten at so_far.1)

-- where each condition holds, each lump is there
lump_there : (w : List ℕ) (label : ℕ) → FirstFault (lump_conditions w label) None → (k : ℕ) → k < 10 → HasLump w (label + (k + 1))
unfolding lump_conditions
lump_there w label sound k below = elim (none_each (lump_check w label) 10 k below sound) [
  | inl here ↦ here.0
  | inr fault ↦ absurd cc
]

pub first_there : (w : List ℕ) (label : ℕ) → FirstFault (lump_conditions w label) None → label + 1 < entry_count w
first_there w label sound = (lump_there w label sound 0 (omega arith)).there

-- ten spans, each in the bytes
pub spans_lie : (w : List ℕ) (label : ℕ) (spans : List (ℕ × ℕ)) → FirstFault (lump_conditions w label) None → spans ≡ lump_spans w label → AreSpans w spans
spans_lie w label spans sound same =
    let span : ℕ → ℕ × ℕ = λ e. span_of w (label + e) in
    let ten : length (map span (range_with_len 1 10)) ≡ 10 = length-map-range_with_len span 1 10 in
    let lie : All (LiesIn w) (map span (range_with_len 1 10)) = λ k d below.
    let here : k < 10 = omega (arith, ten, below) in
    rw (get_or-map-range_with_len span 1 10 k (k + 1) d here (omega arith)) (lump_there w label sound k here).lies in
    rw same (record { ten = ten; lie = lie })

-- two tests of one fact agree
same_test : (P : Type 0) (a b : Bool) → (IsTrue a ↔ P) → (IsTrue b ↔ P) → a ≡ b
same_test P true true p q = refl
same_test P false false p q = refl
same_test P true false p q = absurd (false≢true (q.1 (p.0 refl)))
same_test P false true p q = absurd (false≢true (p.1 (q.0 refl)))

-- a file says one thing of a map
pub one_map : (w : List ℕ) (episode map : ℕ) (a b : MapSpans) → IsMap w episode map a → IsMap w episode map b
    → (a.label ≡ b.label) × (a.spans.items ≡ b.spans.items) × (a.episode_form ≡ b.episode_form) × (a.other_form ≡ b.other_form)
one_map w episode map a b p q =
    let same = one_label w episode map a.episode_form b.episode_form a.label b.label p.label q.label in
    let other = rw (← same.1) at q.other_form in
    (same.1, p.spans ∙ ap (lump_spans w) same.1 ∙ sym q.spans, same.0, same_test (IsOtherForm w a.label) a.other_form b.other_form p.other_form other)
