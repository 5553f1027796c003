-- A world out of two sides has these sides. Assumes nothing.
use Rattle.std.proofs.Common.{◌≡◌, ℕ, ◌+◌, ◌*◌, ◌/◌, ◌%◌, cond, ap, ap₂, arith, eq-eqb, ne_eqb}
use mathlib.Core.Path.{fun_ext}
use Rattle.logic.specs.Trees.{World}
use Rattle.sides.specs.declared.Side.{Side}
use Rattle.sides.specs.declared.Side.TheVariants.{First, Second}
use Rattle.sides.specs.Sides.{side_at, doubled, world_of, woven, joined}

-- a doubled number is of its side, and its half is the number
pub side_doubled : (s : Side) (n : ℕ) → side_at (doubled s n) ≡ s
side_doubled First n = ap (λ b. cond b First Second) (eq-eqb ((2 * n) % 2) 0 (omega arith))
side_doubled Second n = ap (λ b. cond b First Second) (ne_eqb ((2 * n + 1) % 2) 0 (omega arith))

pub half_doubled : (s : Side) (n : ℕ) → doubled s n / 2 ≡ n
half_doubled First n = omega arith
half_doubled Second n = omega arith

pub world_joined : (ws : Side → World) (s : Side) → world_of s (joined ws) ≡ ws s
world_joined ws s = ap₂ (woven ws) (fun_ext (side_doubled s)) (fun_ext (half_doubled s))
