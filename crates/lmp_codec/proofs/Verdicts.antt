-- Each text of bytes has one verdict.
use Rattle.std.proofs.Common.{Bool, true, false, ℕ, zero, suc, ◌+◌, ◌<◌, ◌≤◌, ◌≡◌, ◌≢◌, ◌++◌, ◌⊎◌, inl, inr, List, [], ◌∷◌, length, take, drop, slice_index, arith, ap, refl, subst, sym, ◌∙◌, append_assoc, Some, Result, Ok, Err}
use Rattle.std.specs.List.{flat_map, AllByRecursion, slice_get}
use Rattle.std.proofs.lemmas.List.{take_at, drop_at, length-take, length-take-le, get_or-take, append-nil}
use Rattle.std.proofs.lemmas.Bool.{cases_lt, both_ways}
use Rattle.std.proofs.lemmas.Bool.Decides.{eqb_tells}
use Rattle.lmp_codec.specs.Header.{IsHeader, may_stand, is_long, header_len}
use Rattle.lmp_codec.specs.Demo.{tic_len, tic_bytes, spelled, end_byte, most_tics, FitsBytes, IsDemo, IsCut, IsLong, BreaksHeader, IsFault, IsVerdict, written, MayBeWritten}
use Rattle.lmp_codec.specs.declared.input.Tic.{Tic}
use Rattle.lmp_codec.specs.declared.whole.Demo.{Demo}
use Rattle.lmp_codec.specs.declared.fault.DemoFault.{DemoFault}
use Rattle.lmp_codec.specs.declared.fault.DemoFault.TheVariants.{DemoVersion, DemoHead, DemoCut, DemoLong, Memory}
use Rattle.lmp_codec.proofs.Spelling.{AreBytes, heads, begins_apart, same_bytes}
use Rattle.lmp_codec.proofs.Progress.{ReadSoFar, demo_here, long_here, cut_at_end, cut_within, read_on}
use Rattle.lmp_codec.proofs.Fronts.{KeepsRules, header_cut, search_break, demo_opens, cut_opens, long_opens, opens_unbroken, opens_version, known_version}

-- ---- no two verdicts

-- two lists of tics, each with its end byte
same_tics : (long : Bool) (ps qs : List Tic) (x y : List ℕ) → AllByRecursion (FitsBytes long) ps → AllByRecursion (FitsBytes long) qs → flat_map (tic_bytes long) ps ++ end_byte ∷ x ≡ flat_map (tic_bytes long) qs ++ end_byte ∷ y
    → (ps ≡ qs) × (x ≡ y)
same_tics long [] [] x y p q e = (refl, cc)
same_tics long [] (b ∷ qs) x y p q e = absurd (begins_apart long b (flat_map (tic_bytes long) qs ++ end_byte ∷ y) x q.0 (sym (append_assoc (tic_bytes long b) _ _) ∙ sym e))
same_tics long (a ∷ ps) [] x y p q e = absurd (begins_apart long a (flat_map (tic_bytes long) ps ++ end_byte ∷ x) y p.0 (sym (append_assoc (tic_bytes long a) _ _) ∙ e))
same_tics long (a ∷ ps) (b ∷ qs) x y p q e =
    let first = same_bytes long a b _ _ p.0 q.0 (sym (append_assoc (tic_bytes long a) _ _) ∙ e ∙ append_assoc (tic_bytes long b) _ _) in
    let rest = same_tics long ps qs x y p.1 q.1 first.1 in
    let here : a ≡ b = first.0 in
    let behind : ps ≡ qs = rest.0 in
    (cc, rest.1)

-- tics with their end byte, and at least as many that go on
ends_or_goes_on : (long : Bool) (ps qs : List Tic) (next : ℕ) (x y : List ℕ) → AllByRecursion (FitsBytes long) ps → AllByRecursion (FitsBytes long) qs → length ps ≤ length qs → next ≢ end_byte
    → flat_map (tic_bytes long) ps ++ end_byte ∷ x ≡ flat_map (tic_bytes long) qs ++ next ∷ y → ⊥
ends_or_goes_on long [] [] next x y p q few ne e = ne (sym (heads _ _ _ _ e))
ends_or_goes_on long [] (b ∷ qs) next x y p q few ne e = begins_apart long b (flat_map (tic_bytes long) qs ++ next ∷ y) x q.0 (sym (append_assoc (tic_bytes long b) _ _) ∙ sym e)
ends_or_goes_on long (a ∷ ps) [] next x y p q few ne e = absurd (omega arith)
ends_or_goes_on long (a ∷ ps) (b ∷ qs) next x y p q few ne e =
    let first = same_bytes long a b _ _ p.0 q.0 (sym (append_assoc (tic_bytes long a) _ _) ∙ e ∙ append_assoc (tic_bytes long b) _ _) in
    ends_or_goes_on long ps qs next x y p.1 q.1 (omega arith) ne first.1

same_front : (n : ℕ) (h k x y : List ℕ) → length h ≡ n → length k ≡ n → h ++ x ≡ k ++ y → (h ≡ k) × (x ≡ y)
same_front n h k x y eh ek e = (
  sym (take_at h x n eh) ∙ ap (take n) e ∙ take_at k y n ek,
  sym (drop_at h x n eh) ∙ ap (drop n) e ∙ drop_at k y n ek,
)

regroup : (h t r : List ℕ) (b : ℕ) → (h ++ t ++ b ∷ []) ++ r ≡ h ++ (t ++ b ∷ r)
regroup h t r b = simp append_assoc

-- two written forms, one of which may go on
pub same_forms : (h k : List ℕ) (ps qs : List Tic) (x y : List ℕ) → MayBeWritten h ps → MayBeWritten k qs → written h ps ++ x ≡ written k qs ++ y → (h ≡ k) × (ps ≡ qs) × (x ≡ y)
same_forms h k ps qs x y p q e =
    let whole = sym (regroup h (spelled h ps) x end_byte) ∙ e ∙ regroup k (spelled k qs) y end_byte in
    let front = same_front 13 h k _ _ p.valid.whole q.valid.whole whole in
    let version : is_long k ≡ is_long h = ap is_long (sym front.0) in
    let Fit : Bool → Type 0 = λ long. AllByRecursion (FitsBytes long) qs in
    let Same : Bool → Type 0 = λ long. spelled h ps ++ end_byte ∷ x ≡ flat_map (tic_bytes long) qs ++ end_byte ∷ y in
    let tics = same_tics (is_long h) ps qs x y p.fits (subst Fit version q.fits) (subst Same version front.1) in
    (front.0, tics.0, tics.1)

-- a written form is no text that is too long
form_or_long : (h k : List ℕ) (ps qs : List Tic) (next : ℕ) (x y : List ℕ) → MayBeWritten h ps → MayBeWritten k qs → length qs ≡ most_tics → next ≢ end_byte → written h ps ++ x ≡ (k ++ spelled k qs ++ next ∷ []) ++ y → ⊥
form_or_long h k ps qs next x y p q full ne e =
    let whole = sym (regroup h (spelled h ps) x end_byte) ∙ e ∙ regroup k (spelled k qs) y next in
    let front = same_front 13 h k _ _ p.valid.whole q.valid.whole whole in
    let version : is_long k ≡ is_long h = ap is_long (sym front.0) in
    let Fit : Bool → Type 0 = λ long. AllByRecursion (FitsBytes long) qs in
    let Same : Bool → Type 0 = λ long. spelled h ps ++ end_byte ∷ x ≡ flat_map (tic_bytes long) qs ++ next ∷ y in
    ends_or_goes_on (is_long h) ps qs next x y p.fits (subst Fit version q.fits) (subst (λ (n : ℕ). length ps ≤ n) (sym full) p.within) ne (subst Same version front.1)

empty_front : (x y : List ℕ) → x ++ y ≡ [] → y ≡ []
empty_front [] y e = e
empty_front (a ∷ x) y e = cc

demo_or_cut : (text h : List ℕ) (ps : List Tic) → IsDemo text h ps → IsCut text → ⊥
demo_or_cut text h ps d c =
    let whole : written c.header c.tics ++ [] ≡ written h ps ++ (d.begins.0 ++ c.more) = append-nil _ ∙ c.front ∙ ap (λ (x : List ℕ). x ++ c.more) d.begins.1 ∙ append_assoc (written h ps) d.begins.0 c.more in
    c.missing (empty_front d.begins.0 c.more (sym (same_forms c.header h c.tics ps [] (d.begins.0 ++ c.more) c.form d.form whole).2))

long_regroup : (k t r m : List ℕ) (b : ℕ) → (k ++ t ++ b ∷ r) ++ m ≡ (k ++ t ++ b ∷ []) ++ (r ++ m)
long_regroup k t r m b = simp append_assoc

demo_or_long : (text h : List ℕ) (ps : List Tic) → IsDemo text h ps → IsLong text → ⊥
demo_or_long text h ps d l =
    form_or_long h l.header ps l.tics l.next d.begins.0 l.rest d.form l.form l.full l.goes_on
    (sym d.begins.1 ∙ l.front ∙ sym (append-nil _) ∙ long_regroup l.header (spelled l.header l.tics) l.rest [] l.next ∙ ap (λ (x : List ℕ). (l.header ++ spelled l.header l.tics ++ l.next ∷ []) ++ x) (append-nil l.rest))

cut_or_long : (text : List ℕ) → IsCut text → IsLong text → ⊥
cut_or_long text c l =
    form_or_long c.header l.header c.tics l.tics l.next [] (l.rest ++ c.more) c.form l.form l.full l.goes_on
    (append-nil _ ∙ c.front ∙ ap (λ (x : List ℕ). x ++ c.more) l.front ∙ long_regroup l.header (spelled l.header l.tics) l.rest c.more l.next)

version_or_break : (text : List ℕ) (version place : ℕ) → slice_get text 0 ≡ Some version → version ≢ 109 → version ≢ 111 → 0 < place → BreaksHeader text place → ⊥
version_or_break [] version place first no_short no_long past b = absurd cc
version_or_break (byte ∷ text) version place first no_short no_long past b =
    let is : byte ≡ version = cc in
    known_version byte version is no_short no_long (b.first 0 past)

one_break : (text : List ℕ) (this other : ℕ) → BreaksHeader text this → BreaksHeader text other → ¬ (this < other)
one_break text this other a b less = both_ways (may_stand this (slice_index text this)) a.broken (b.first this less)

same_break : (text : List ℕ) (this other : ℕ) → BreaksHeader text this → BreaksHeader text other → this ≡ other
same_break text this other a b =
    elim (cases_lt this other) [
      | inl less ↦ absurd (one_break text this other a b less)
      | inr at_least ↦ elim (cases_lt other this) [ inl less ↦ absurd (one_break text other this b a less) | inr at_most ↦ omega arith ]
    ]

demo_or_fault : (text h : List ℕ) (ps : List Tic) (fault : DemoFault) → IsDemo text h ps → IsFault text fault → ⊥
demo_or_fault text h ps (DemoVersion v) d f = opens_version text v (demo_opens text h ps d) f.0 f.1 f.2
demo_or_fault text h ps (DemoHead i) d f = opens_unbroken text i (demo_opens text h ps d) f.1
demo_or_fault text h ps (DemoCut n) d f = demo_or_cut text h ps d f.1
demo_or_fault text h ps DemoLong d f = demo_or_long text h ps d f
demo_or_fault text h ps Memory d f = f

same_fault : (text : List ℕ) (this other : DemoFault) → IsFault text this → IsFault text other → this ≡ other
same_fault text Memory other p q = absurd p
same_fault text (DemoVersion v) Memory p q = absurd q
same_fault text (DemoHead i) Memory p q = absurd q
same_fault text (DemoCut n) Memory p q = absurd q
same_fault text DemoLong Memory p q = absurd q
same_fault text (DemoVersion v) (DemoVersion w) p q = let e = sym p.0 ∙ q.0 in cc
same_fault text (DemoVersion v) (DemoHead j) p q = absurd (version_or_break text v j p.0 p.1 p.2 q.0 q.1)
same_fault text (DemoVersion v) (DemoCut m) p q = absurd (opens_version text v (cut_opens text q.1) p.0 p.1 p.2)
same_fault text (DemoVersion v) DemoLong p q = absurd (opens_version text v (long_opens text q) p.0 p.1 p.2)
same_fault text (DemoHead i) (DemoVersion w) p q = absurd (version_or_break text w i q.0 q.1 q.2 p.0 p.1)
same_fault text (DemoHead i) (DemoHead j) p q = ap DemoHead (same_break text i j p.1 q.1)
same_fault text (DemoHead i) (DemoCut m) p q = absurd (opens_unbroken text i (cut_opens text q.1) p.1)
same_fault text (DemoHead i) DemoLong p q = absurd (opens_unbroken text i (long_opens text q) p.1)
same_fault text (DemoCut n) (DemoVersion w) p q = absurd (opens_version text w (cut_opens text p.1) q.0 q.1 q.2)
same_fault text (DemoCut n) (DemoHead j) p q = absurd (opens_unbroken text j (cut_opens text p.1) q.1)
same_fault text (DemoCut n) (DemoCut m) p q = ap DemoCut (sym p.0 ∙ q.0)
same_fault text (DemoCut n) DemoLong p q = absurd (cut_or_long text p.1 q)
same_fault text DemoLong (DemoVersion w) p q = absurd (opens_version text w (long_opens text p) q.0 q.1 q.2)
same_fault text DemoLong (DemoHead j) p q = absurd (opens_unbroken text j (long_opens text p) q.1)
same_fault text DemoLong (DemoCut m) p q = absurd (cut_or_long text q.1 p)
same_fault text DemoLong DemoLong p q = refl

demo_parts : (h k : List ℕ) (ps qs : List Tic) → h ≡ k → ps ≡ qs → (let this : Demo = record { header = h; tics = ps } in this) ≡ record { header = k; tics = qs }
demo_parts h k ps qs eh et = cc

-- a text has at most one verdict
pub same_verdict : (text : List ℕ) (this other : Result Demo DemoFault) → IsVerdict text this → IsVerdict text other → this ≡ other
same_verdict text (Ok d) (Ok e) p q =
    let same = same_forms d.header e.header d.tics e.tics p.begins.0 q.begins.0 p.form q.form (sym p.begins.1 ∙ q.begins.1) in
    ap Ok (demo_parts d.header e.header d.tics e.tics same.0 same.1)
same_verdict text (Ok d) (Err g) p q = absurd (demo_or_fault text d.header d.tics g p q)
same_verdict text (Err f) (Ok e) p q = absurd (demo_or_fault text e.header e.tics f q p)
same_verdict text (Err f) (Err g) p q = ap Err (same_fault text f g p q)

-- ---- each text has one

abbrev Verdict : List ℕ → Type 0
Verdict text = (verdict : Result Demo DemoFault) × IsVerdict text verdict

cut_verdict : (text : List ℕ) → IsCut text → Verdict text
cut_verdict text cut = (Err (DemoCut (length text)), (refl, cut))

some_bytes : (long : Bool) → 4 ≤ tic_len long
some_bytes true = omega arith
some_bytes false = omega arith

-- what is left of the text is gone through, in ps many steps ps it has bytes at most
from_here : (fuel : ℕ) (text header : List ℕ) (tics : List Tic) (at : ℕ) → length text ≤ at + fuel → ReadSoFar text header tics at → IsHeader header → AreBytes text → Verdict text
from_here zero text header tics at all read valid bytes = cut_verdict text (cut_at_end text header tics at read valid (omega arith))
from_here (suc fuel) text header tics at all read valid bytes =
    elim (cases_lt at (length text)) [
      | inr ended ↦ cut_verdict text (cut_at_end text header tics at read valid ended)
      | inl inside ↦
          elim (eqb_tells (slice_index text at) end_byte) [
            | inl ends ↦ (Ok (record { header = header; tics = tics }), demo_here text header tics at read valid inside ends.1)
            | inr goes_on ↦
                elim (eqb_tells (length tics) most_tics) [
                  | inl full ↦ (Err DemoLong, long_here text header tics at read valid inside goes_on.1 full.1)
                  | inr room ↦
                      elim (cases_lt (length text) (at + tic_len (is_long header))) [
                        | inl short ↦ cut_verdict text (cut_within text header tics at read valid bytes inside goes_on.1 room.1 short)
                        | inr whole ↦
                            let next = read_on text header tics at read bytes goes_on.1 room.1 whole in
                            from_here fuel text header (tics ++ next.0 ∷ []) (at + tic_len (is_long header)) (omega (arith, some_bytes (is_long header))) next.1 valid bytes
                      ]
                ]
          ]
    ]

whole_inside : (text header : List ℕ) (n : ℕ) → take n text ≡ header → length header ≡ n → n ≤ length text
whole_inside text header n starts whole = omega (arith, length-take n text, ap length starts)

-- what reading begins with
pub read_none : (text header : List ℕ) → take header_len text ≡ header → IsHeader header → ReadSoFar text header [] header_len
read_none text header starts valid = record {
  so_far = starts ∙ sym (append-nil header);
  inside = whole_inside text header header_len starts valid.whole;
  fits = tt;
  within = omega arith;
}

-- a front that keeps the rules and is whole is a header
pub front_valid : (text : List ℕ) → 13 ≤ length text → KeepsRules text → IsHeader (take header_len text)
front_valid text whole keeps = record {
  whole = length-take-le 13 text whole;
  rules = λ k h. ap (may_stand k) (get_or-take 13 text k 0 h) ∙ keeps k h (omega arith);
}

broken_verdict : (text : List ℕ) (place : ℕ) → BreaksHeader text place → Verdict text
broken_verdict [] place b = absurd (omega arith)
broken_verdict (byte ∷ text) zero b = (Err (DemoVersion byte), (refl, (λ e. both_ways (may_stand 0 byte) b.broken (ap (may_stand 0) e)), (λ e. both_ways (may_stand 0 byte) b.broken (ap (may_stand 0) e))))
broken_verdict (byte ∷ text) (suc place) b = (Err (DemoHead (suc place)), (omega arith, b))

bytes_at : (text : List ℕ) → AllByRecursion (λ byte. byte < 256) text → AreBytes text
bytes_at [] each k = omega arith
bytes_at (byte ∷ text) each zero = each.0
bytes_at (byte ∷ text) each (suc k) = bytes_at text each.1 k

-- a text of bytes has a verdict
pub some_verdict : (text : List ℕ) → AllByRecursion (λ byte. byte < 256) text → Verdict text
some_verdict text each =
    elim (cases_lt (length text) 13) [
      | inl short ↦
          elim (search_break text (length text) (omega arith) (omega arith)) [
            | inr found ↦ broken_verdict text found.0 found.1
            | inl keeps ↦ cut_verdict text (header_cut text short (λ k h inside. keeps k inside))
          ]
      | inr whole ↦
          elim (search_break text 13 (omega arith) whole) [
            | inr found ↦ broken_verdict text found.0 found.1
            | inl keeps ↦
                let valid = front_valid text whole (λ k h inside. keeps k h) in
                from_here (length text) text (take header_len text) [] header_len (omega arith) (read_none text (take header_len text) refl valid) valid (bytes_at text each)
          ]
    ]

-- An answer that is right, or tells of no memory, is the text's verdict, or tells of no memory.
pub only_verdict : (text : List ℕ) (result : Result Demo DemoFault) → (result ≡ Err Memory) ⊎ IsVerdict text result → (verdict : Result Demo DemoFault) → IsVerdict text verdict → (result ≡ verdict) ⊎ (result ≡ Err Memory)
only_verdict text result right verdict v =
    elim right [ inl none ↦ inr none | inr found ↦ inl (same_verdict text result verdict found v) ]
