-- What touches and clips leave as it is.
use Rattle.std.proofs.Common.{◌≡◌, ℕ, ◌<◌, Bool, false, List, length, get_or, set, Option, Some, None, refl, sym, ap, ◌∙◌, inl, inr}
use Rattle.std.specs.Option.{option_map}
use Rattle.std.proofs.lemmas.Bool.{cases_eq, cases_Bool}
use Rattle.std.proofs.lemmas.List.{length-set, get_or-set_same, get_or-set_other}
use Rattle.map_geometry.specs.Lists.{Lists}
use Rattle.health_fx.specs.Body.{Body, taken_of}
use Rattle.cow_world.specs.declared.records.Thing.{Thing}
use Rattle.cow_world.specs.declared.records.Player.{Player}
use Rattle.cow_world.specs.Flat.{Gridded, parts, no_thing, thing_at, set_thing, set_player}
use Rattle.clip_check.specs.Aside.{TouchesOnly}
use Rattle.clip_check.specs.Touches.{rise_of, is_out_of_reach, key_of, with_key, with_body, taker_of, gone, taken_by, touch_of}

pub aside_same : (w : Gridded) → TouchesOnly w w
aside_same w = record {
  sectors = refl;
  specials = refl;
  thinkers = refl;
  links = refl;
  acted = refl;
  rng = refl;
  time = refl;
  tics = refl;
  exited = refl;
  grid = refl;
  many = refl;
  kinds = λ i. refl;
  xs = λ i. refl;
  ys = λ i. refl;
  player = refl;
}

pub aside_two : (a b c : Gridded) → TouchesOnly a b → TouchesOnly b c → TouchesOnly a c
aside_two a b c one two = record {
  sectors = two.sectors ∙ one.sectors;
  specials = two.specials ∙ one.specials;
  thinkers = two.thinkers ∙ one.thinkers;
  links = two.links ∙ one.links;
  acted = two.acted ∙ one.acted;
  rng = two.rng ∙ one.rng;
  time = two.time ∙ one.time;
  tics = two.tics ∙ one.tics;
  exited = two.exited ∙ one.exited;
  grid = two.grid ∙ one.grid;
  many = two.many ∙ one.many;
  kinds = λ i. two.kinds i ∙ one.kinds i;
  xs = λ i. two.xs i ∙ one.xs i;
  ys = λ i. two.ys i ∙ one.ys i;
  player = two.player ∙ one.player;
}

pub aside_set_player : (w : Gridded) (to : Player) → to.thing ≡ (parts w).player.thing → TouchesOnly w (set_player w to)
aside_set_player w to same = record {
  sectors = refl;
  specials = refl;
  thinkers = refl;
  links = refl;
  acted = refl;
  rng = refl;
  time = refl;
  tics = refl;
  exited = refl;
  grid = refl;
  many = refl;
  kinds = λ i. refl;
  xs = λ i. refl;
  ys = λ i. refl;
  player = same;
}

-- a field of each thing after a write of a thing that has the same there
field_set : {F : Type 0} (f : Thing → F) (things : List Thing) (i : ℕ) (to : Thing) → i < length things → f to ≡ f (get_or things i no_thing) → (j : ℕ) → f (get_or (set things i to) j no_thing) ≡ f (get_or things j no_thing)
field_set f things i to at same j = elim (cases_eq j i) [
  | inl here ↦ rw (here, get_or-set_same things i to no_thing at) same
  | inr other ↦ ap f (get_or-set_other things i j to no_thing other)
]

pub aside_set_thing : (w : Gridded) (i : ℕ) (to : Thing) → i < length (parts w).things → to.kind ≡ (thing_at w i).kind → to.x ≡ (thing_at w i).x → to.y ≡ (thing_at w i).y → TouchesOnly w (set_thing w i to)
aside_set_thing w i to at kind x y = record {
  sectors = refl;
  specials = refl;
  thinkers = refl;
  links = refl;
  acted = refl;
  rng = refl;
  time = refl;
  tics = refl;
  exited = refl;
  grid = refl;
  many = length-set (parts w).things i to;
  kinds = field_set (λ (thing : Thing). thing.kind) (parts w).things i to at kind;
  xs = field_set (λ (thing : Thing). thing.x) (parts w).things i to at x;
  ys = field_set (λ (thing : Thing). thing.y) (parts w).things i to at y;
  player = refl;
}

-- ---- touches

-- who takes a thing stands for the same thing
with_body_thing : (player to : Player) (body : Option Body) → option_map (with_body player) body ≡ Some to → to.thing ≡ player.thing
with_body_thing player to None is = absurd cc
with_body_thing player to (Some body) is =
    let same : with_body player body ≡ to = cc in
    sym (ap (λ (p : Player). p.thing) same)

taker_thing : (key : Option ℕ) (player to : Player) (number : ℕ) (doom2 : Bool) → taker_of key player number doom2 ≡ Some to → to.thing ≡ player.thing
taker_thing None player to number doom2 is = with_body_thing player to (taken_of player.body number doom2) is
taker_thing (Some key) player to number doom2 is =
    let same : with_key player key ≡ to = cc in
    sym (ap (λ (p : Player). p.thing) same)

taken_aside : (taker : Option Player) (w : Gridded) (thing : ℕ) → thing < length (parts w).things → ((to : Player) → taker ≡ Some to → to.thing ≡ (parts w).player.thing) → TouchesOnly w (taken_by taker w thing)
taken_aside None w thing at same = aside_same w
taken_aside (Some to) w thing at same =
    aside_two w (set_player w to) (gone (set_player w to) thing) (aside_set_player w to (same to refl))
    (aside_set_thing (set_player w to) thing (record (thing_at w thing) { present = false }) at refl refl refl)

pub touch_aside : (level : Lists) (w : Gridded) (thing : ℕ) → thing < length (parts w).things → TouchesOnly w (touch_of level w thing)
touch_aside level w thing at = elim (cases_Bool (is_out_of_reach (rise_of w thing))) [
  | inl out ↦ rw out (aside_same w)
  | inr within ↦ rw within (taken_aside _ w thing at (λ to is. taker_thing (key_of (thing_at w thing).kind) (parts w).player to _ _ is))
]
