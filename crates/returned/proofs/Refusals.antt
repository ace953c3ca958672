-- What the calls that return P rest on: a P of grounds that are small fits beside the number.
use Rattle.std.proofs.Common.{◌≡◌, refl, subst, sym, Option, None, Some, List, ℕ, ◌^◌, ◌<◌, arith}
use Rattle.settings.specs.Grounds.{Ground, Outcome, outcome, Overwrites}
use Rattle.settings.proofs.FirstGround.{Small}
use Rattle.returned.specs.Needs.{PlaceFits}

-- Where the P of each ground is at most n, the P of an answer's refusal fits.
pub answer_fits : (g : Option Ground) (count n : ℕ) {a : Outcome ℕ} → a ≡ outcome g count → Small n g → n < 2 ^ 32 → PlaceFits a
answer_fits g count n e small h = subst PlaceFits (sym e) (go g small)
  where
    go : (o : Option Ground) → Small n o → PlaceFits (outcome o count)
    go None s = tt
    go (Some f) s = omega (arith, s f refl)

-- The same of a call below that overwrote the buffer and answered a.
pub place_fits : {g : Option Ground} {count : ℕ} {places old new : List ℕ} {a : Outcome ℕ} → Overwrites g count places old a new
    → (n : ℕ) → Small n g → n < 2 ^ 32 → PlaceFits a
place_fits {g = g} {count = count} W n small h = answer_fits g count n W.answers small h
