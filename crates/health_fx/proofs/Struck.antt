-- A body put together from the parts that a hit leaves.
use Rattle.std.proofs.Common.{◌≡◌, ℕ, ◌≤◌, ℤ, pos, ◌-ℤ◌, Bool, false, refl, arith, nat_lt, if◌then◌else◌}
use Rattle.std.proofs.lemmas.Bool.Decides.{nat_tests}
use Rattle.std.specs.Int.{int_max}
use Rattle.health_fx.specs.declared.hits.Hurt.{Hurt}
use Rattle.health_fx.specs.Body.{Body, struck, saved, kind_left, dealt, hurt_of, fate_of, freed, fate_after}

pub struck_is : (b : Body) (damage off health armour : ℤ) (kind : ℕ) →
    off ≡ saved b.kind b.armour damage →
    health ≡ int_max (pos 0) (b.health -ℤ (damage -ℤ off)) →
    armour ≡ b.armour -ℤ off →
    kind ≡ kind_left b.kind b.armour damage →
    (let made : Body = record { health = health; armour = armour; kind = kind; suit = b.suit; guard = b.guard; react = b.react; soft = b.soft } in made) ≡ struck b damage
struck_is b damage off health armour kind o h a k = rw (h, a, k, o) refl

unguarded : (guard : ℕ) → guard ≤ 0 → nat_lt 0 guard ≡ false
unguarded guard none = grind (arith, nat_tests)

-- without an invulnerability a hit strikes
pub body_unguarded : (b after : Body) (damage : ℤ) (finale : Bool) → b.guard ≤ 0 → after ≡ struck b (dealt b damage finale) → freed after ≡ hurt_of b damage finale
body_unguarded b after damage finale none is = rw (unguarded b.guard none, is) refl

pub fate_unguarded : (b after : Body) (damage : ℤ) (finale : Bool) → b.guard ≤ 0 → after ≡ struck b (dealt b damage finale) → fate_after after ≡ fate_of b damage finale
fate_unguarded b after damage finale none is = rw (unguarded b.guard none, is) refl
