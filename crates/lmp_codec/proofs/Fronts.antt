-- The header at the front of a text: whole, cut, or with a byte that breaks its rule.
use Rattle.std.proofs.Common.{ℕ, zero, suc, ◌+◌, ◌-◌, ◌<◌, ◌≤◌, ◌≡◌, ◌≢◌, ◌++◌, ◌⊎◌, inl, inr, List, [], ◌∷◌, length, drop, slice_index, IsTrue, true, eqb, arith, ap, refl, subst, sym, ◌∙◌, append_assoc, Some}
use Rattle.std.specs.List.{slice_get}
use Rattle.std.proofs.lemmas.List.{get_or_append_left, get_or-append_right, get_or-drop, length-drop, length-append, append-nil}
use Rattle.std.proofs.lemmas.Bool.{agree_below_at, cases_Bool, cases_lt, both_ways, eqb-true, or_cases}
use Rattle.lmp_codec.specs.Header.{IsHeader, may_stand, header_len}
use Rattle.lmp_codec.specs.Demo.{spelled, end_byte, IsDemo, IsCut, IsLong, BreaksHeader}
use Rattle.lmp_codec.specs.declared.input.Tic.{Tic}
use Rattle.lmp_codec.proofs.Progress.{not_empty}

-- a header, to fill one up with that was cut
abbrev sample : List ℕ
sample = 109 ∷ 0 ∷ 1 ∷ 1 ∷ 0 ∷ 0 ∷ 0 ∷ 1 ∷ 0 ∷ 1 ∷ 0 ∷ 0 ∷ 0 ∷ []

sample_stands : (k : ℕ) → k < 13 → may_stand k (slice_index sample k) ≡ true
sample_stands k h = agree_below_at (λ k. may_stand k (slice_index sample k)) (λ _. true) 13 k refl h

-- each byte that is there stands rightly, as far as the header goes
abbrev pub KeepsRules : List ℕ → Type 0
KeepsRules text = (k : ℕ) → k < header_len → k < length text → IsTrue (may_stand k (slice_index text k))

filled_stands : (text : List ℕ) → length text ≤ 13 → KeepsRules text → (k : ℕ) → k < 13 → may_stand k (slice_index (text ++ drop (length text) sample) k) ≡ true
filled_stands text short keeps k h =
    elim (cases_lt k (length text)) [
      | inl within ↦
          let here : slice_index (text ++ drop (length text) sample) k ≡ slice_index text k = get_or_append_left text (drop (length text) sample) 0 k within in
          ap (may_stand k) here ∙ keeps k h within
      | inr past ↦
          let there : slice_index (text ++ drop (length text) sample) k ≡ slice_index sample k =
          get_or-append_right text (drop (length text) sample) (length text) k 0 refl past
          ∙ get_or-drop (length text) sample (k - length text) 0
          ∙ ap (λ (n : ℕ). slice_index sample n) (omega arith) in
          ap (may_stand k) there ∙ sample_stands k h
    ]

-- a text that ends in its header
pub header_cut : (text : List ℕ) → length text < 13 → KeepsRules text → IsCut text
header_cut text short keeps =
    let fill = drop (length text) sample in
    record {
      header = text ++ fill;
      tics = [];
      more = fill ++ end_byte ∷ [];
      form = record {
        valid = record {
          whole = length-append text fill ∙ ap (λ (n : ℕ). length text + n) (length-drop (length text) sample) ∙ omega arith;
          rules = filled_stands text (omega arith) keeps;
        };
        fits = tt;
        within = omega arith;
      };
      missing = not_empty fill end_byte;
      front = ap (λ (x : List ℕ). x ++ end_byte ∷ []) (append-nil (text ++ fill)) ∙ append_assoc text fill (end_byte ∷ []);
    }

up_to : (P : ℕ → Type 0) (n : ℕ) → ((k : ℕ) → k < n → P k) → P n → (k : ℕ) → k < suc n → P k
up_to P n before here k h =
    elim (cases_lt k n) [ inl below ↦ before k below | inr above ↦ let e : n ≡ k = omega arith in subst P e here ]

-- the header's first n bytes stand rightly, or one of them is the first that doesn't
pub search_break : (text : List ℕ) (n : ℕ) → n ≤ 13 → n ≤ length text → ((k : ℕ) → k < n → IsTrue (may_stand k (slice_index text k))) ⊎ ((place : ℕ) × BreaksHeader text place)
search_break text zero small inside = inl (λ k h. absurd (omega arith))
search_break text (suc n) small inside =
    elim (search_break text n (omega arith) (omega arith)) [
      | inr found ↦ inr found
      | inl before ↦
          elim (cases_Bool (may_stand n (slice_index text n))) [
            | inl stands ↦ inl (up_to (λ k. IsTrue (may_stand k (slice_index text k))) n before stands)
            | inr broken ↦ inr (n, record { in_header = omega arith; in_text = omega arith; broken = broken; first = before })
          ]
    ]

-- the text goes on to something that begins with a header
pub record Opens (text : List ℕ) : Type 0 where
  pub header : List ℕ
  pub more : List ℕ
  pub rest : List ℕ
  pub valid : IsHeader header
  pub opens : text ++ more ≡ header ++ rest

pub opens_keeps : (text : List ℕ) → Opens text → KeepsRules text
opens_keeps text o k h inside =
    ap (may_stand k)
    (sym (get_or_append_left text o.more 0 k inside)
    ∙ ap (λ (x : List ℕ). slice_index x k) o.opens
    ∙ get_or_append_left o.header o.rest 0 k (rw o.valid.whole h))
    ∙ o.valid.rules k h

pub demo_opens : (text header : List ℕ) (tics : List Tic) → IsDemo text header tics → Opens text
demo_opens text header tics d = record {
  header = header;
  more = [];
  rest = (spelled header tics ++ end_byte ∷ []) ++ d.begins.0;
  valid = d.form.valid;
  opens = append-nil text ∙ d.begins.1 ∙ simp append_assoc;
}

pub cut_opens : (text : List ℕ) → IsCut text → Opens text
cut_opens text c = record {
  header = c.header;
  more = c.more;
  rest = spelled c.header c.tics ++ end_byte ∷ [];
  valid = c.form.valid;
  opens = sym c.front ∙ append_assoc c.header (spelled c.header c.tics) (end_byte ∷ []);
}

pub long_opens : (text : List ℕ) → IsLong text → Opens text
long_opens text l = record {
  header = l.header;
  more = [];
  rest = spelled l.header l.tics ++ l.next ∷ l.rest;
  valid = l.form.valid;
  opens = append-nil text ∙ l.front ∙ append_assoc l.header (spelled l.header l.tics) (l.next ∷ l.rest);
}

-- what begins with a header breaks no rule, and has the version
pub opens_unbroken : (text : List ℕ) (place : ℕ) → Opens text → BreaksHeader text place → ⊥
opens_unbroken text place o b = both_ways (may_stand place (slice_index text place)) b.broken (opens_keeps text o place b.in_header b.in_text)

pub known_version : (byte version : ℕ) → byte ≡ version → version ≢ 109 → version ≢ 111 → may_stand 0 byte ≡ true → ⊥
known_version byte version is no_short no_long stands =
    elim (or_cases (eqb byte 109) (eqb byte 111) stands) [
      | inl short ↦ no_short (sym is ∙ eqb-true byte 109 short)
      | inr long ↦ no_long (sym is ∙ eqb-true byte 111 long)
    ]

pub opens_version : (text : List ℕ) (version : ℕ) → Opens text → slice_get text 0 ≡ Some version → version ≢ 109 → version ≢ 111 → ⊥
opens_version [] version o first no_short no_long = absurd cc
opens_version (byte ∷ text) version o first no_short no_long =
    let is : byte ≡ version = cc in
    known_version byte version is no_short no_long (opens_keeps (byte ∷ text) o 0 (omega arith) (omega arith))
