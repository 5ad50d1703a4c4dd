-- The player's body: what a hit does to it, what it takes, and what a tic does.
use Rattle.std.specs.Prelude.{ℕ, ◌+◌, ◌-◌, ◌≤◌, min, Bool, true, false, not, ◌&&◌, ◌||◌, ℤ, pos, ◌+ℤ◌, ◌-ℤ◌, ◌≤ℤ◌, int_lt, int_le, int_div, nat_lt, ◌==◌, Option, Some, None, unwrap_or, if◌then◌else◌}
use Rattle.std.specs.Int.{int_min, int_max}
use Rattle.health_fx.specs.declared.hits.Hurt.{Hurt}
use Rattle.health_fx.specs.declared.hits.Hurt.TheVariants.{Spared, Lived, Died}

-- A player's body. Health and armour are in points. `kind` is that of the armour: none 0, green 1, blue 2. `suit` and
-- `guard` are the tics left of a radiation suit and of an invulnerability, `react` those in which a player who came out
-- of a teleporter can't move. `soft` is so in the easiest skill.
pub record Body : Type 0 where
  pub health : ℤ
  pub armour : ℤ
  pub kind : ℕ
  pub suit : ℕ
  pub guard : ℕ
  pub react : ℕ
  pub soft : Bool

-- what each body keeps to
pub record InBounds (health armour : ℤ) (kind : ℕ) : Type 0 where
  pub health_from : pos 0 ≤ℤ health
  pub health_to : health ≤ℤ pos 200
  pub armour_from : pos 0 ≤ℤ armour
  pub armour_to : armour ≤ℤ pos 200
  pub kind_to : kind ≤ 2

-- the body with which a level starts
abbrev pub fresh : Bool → Body
fresh soft = record { health = pos 100; armour = pos 0; kind = 0; suit = 0; guard = 0; react = 0; soft = soft }

-- ---- a hit

-- in the easiest skill half of the damage is left
abbrev pub softened : Bool → ℤ → ℤ
softened soft damage = if soft then int_div damage (pos 2) else damage

-- in a finale, where damage that would kill leaves one point of health
abbrev pub spared_last : ℤ → Bool → ℤ → ℤ
spared_last health finale damage = if finale && int_le health damage then health -ℤ pos 1 else damage

-- the damage with which a hit comes to the armour
abbrev pub dealt : Body → ℤ → Bool → ℤ
dealt body damage finale = spared_last body.health finale (softened body.soft damage)

-- what armour saves: green a third of the damage, blue a half
abbrev pub share : ℕ → ℤ → ℤ
share kind damage = if kind == 1 then int_div damage (pos 3) else if kind == 2 then int_div damage (pos 2) else pos 0

-- armour is used up by a share that is not less than what is left of it
abbrev pub is_used_up : ℕ → ℤ → ℤ → Bool
is_used_up kind armour damage = not (kind == 0) && int_le armour (share kind damage)

-- the points that come off the armour, and that health is saved
abbrev pub saved : ℕ → ℤ → ℤ → ℤ
saved kind armour damage = if is_used_up kind armour damage then armour else share kind damage

-- armour that is used up is none
abbrev pub kind_left : ℕ → ℤ → ℤ → ℕ
kind_left kind armour damage = if is_used_up kind armour damage then 0 else kind

-- the body after this damage came to its armour
abbrev pub struck : Body → ℤ → Body
struck body damage = let off = saved body.kind body.armour damage in
    record body {
      health = int_max (pos 0) (body.health -ℤ (damage -ℤ off));
      armour = body.armour -ℤ off;
      kind = kind_left body.kind body.armour damage;
    }

abbrev pub is_alive : Body → Bool
is_alive body = int_lt (pos 0) body.health

-- who lives on can move again at once
abbrev pub freed : Body → Body
freed body = if is_alive body then record body { react = 0 } else body

abbrev pub fate_after : Body → Hurt
fate_after body = if is_alive body then Lived else Died

-- The body after a hit. While an invulnerability lasts, nothing changes.
abbrev pub hurt_of : Body → ℤ → Bool → Body
hurt_of body damage finale = if nat_lt 0 body.guard then body else freed (struck body (dealt body damage finale))

-- what came of a hit
abbrev pub fate_of : Body → ℤ → Bool → Hurt
fate_of body damage finale = if nat_lt 0 body.guard then Spared else fate_after (struck body (dealt body damage finale))

-- ---- things to take

-- health restored to no more than 100, which only who has less takes
abbrev pub restored : Body → ℤ → Option Body
restored body points = if int_lt body.health (pos 100) then Some (record body { health = int_min (body.health +ℤ points) (pos 100) }) else None

-- health added, up to 200
abbrev pub strengthened : Body → ℤ → Option Body
strengthened body points = Some (record body { health = int_min (body.health +ℤ points) (pos 200) })

-- a piece of armour, up to 200; without armour it is green armour
abbrev pub patched : Body → Option Body
patched body = Some (record body { armour = int_min (body.armour +ℤ pos 1) (pos 200); kind = if body.kind == 0 then 1 else body.kind })

-- a suit of armour, which only who has less takes
abbrev pub armoured : Body → ℕ → ℤ → Option Body
armoured body kind points = if int_lt body.armour points then Some (record body { armour = points; kind = kind }) else None

-- all health, and blue armour where the body has less
abbrev pub renewed : Body → Option Body
renewed body = let whole : Body = record body { health = pos 200 } in Some (unwrap_or (armoured whole 2 (pos 200)) whole)

-- at least whole health
abbrev pub revived : Body → Option Body
revived body = Some (record body { health = int_max body.health (pos 100) })

abbrev pub suited : Body → Option Body
suited body = Some (record body { suit = 2100 })

abbrev pub guarded : Body → Option Body
guarded body = Some (record body { guard = 1050 })

-- The body that has taken a thing of this number, or none where the thing is left: a stimpack, a medikit, a health bonus,
-- a soul sphere, an armour bonus, green armour, blue armour, a mega sphere, a berserk pack, a radiation suit, an
-- invulnerability.
abbrev pub taken_of : Body → ℕ → Bool → Option Body
taken_of body number doom2 =
    if number == 2011 then restored body (pos 10)
    else if number == 2012 then restored body (pos 25)
    else if number == 2014 then strengthened body (pos 1)
    else if number == 2013 then strengthened body (pos 100)
    else if number == 2015 then patched body
    else if number == 2018 then armoured body 1 (pos 100)
    else if number == 2019 then armoured body 2 (pos 200)
    else if number == 83 && doom2 then renewed body
    else if number == 2023 then revived body
    else if number == 2025 then suited body
    else if number == 2022 then guarded body
    else None

-- ---- a tic

-- a radiation suit and an invulnerability wear off
abbrev pub ticked : Body → Body
ticked body = record body { suit = body.suit - 1; guard = body.guard - 1 }
