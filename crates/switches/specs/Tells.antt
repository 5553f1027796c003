-- What is told of a switch is one thing, and it is what the told world has there. Assumes nothing.
use Rattle.std.specs.Prelude.{◌≡◌, ℕ, zero, suc, ◌<◌, Bool, true, false, cond, List, Decides, refl}
use Rattle.std.proofs.Common.{sym, ap, ap₂, ◌∙◌, arith}
use Rattle.std.proofs.lemmas.Bool.{false≢true}
use Rattle.std.proofs.lemmas.Bool.Decides.{nat_tests}
use Rattle.logic.specs.Trees.{tower}
use Rattle.logic.specs.Theories.{Forced}
use Rattle.logic.specs.Tellings.{Told, Names}
use Rattle.logic.specs.Tellings.Told.{told, refused}
use Rattle.logic.specs.declared.Equation.{Equation}
use Rattle.switches.specs.Switches.{switches, switched, stands_on, told_by, switch_telling, Height, SwitchTold}
use Rattle.switches.specs.Forcing.{told_freest, on_forced, height_on}

-- whether a switch stands on decides whether it is forced
forced_on : (es : List Equation) (n : ℕ) → Forced switches es (switched n) → stands_on es n ≡ true
forced_on es n f = height_on (stands_on es n) (f.1 (told_by es) tt (told_freest es).all)

on_decides : (es : List Equation) (n : ℕ) → n < 256 → Decides (stands_on es n) (Forced switches es (switched n))
on_decides es n small = (on_forced es (switched n) (grind (arith, nat_tests)), forced_on es n)

-- the told height is that of the told world
height_is : (es : List Equation) (n height : ℕ) (b : Bool) → Decides b (Forced switches es (switched n)) → Height es n height → height ≡ cond b 0 1
height_is es n height true d h = h.0 (d.0 refl)
height_is es n height false d h = h.1 (λ f. false≢true (d.1 f))

told_height : (es : List Equation) (n height : ℕ) → n < 256 → Height es n height → height ≡ cond (stands_on es n) 0 1
told_height es n height small h = height_is es n height (stands_on es n) (on_decides es n small) h

pub switch_named : (es : List Equation) (n : ℕ) (a : Told) → SwitchTold es n a → Names switch_telling (told_by es) a ((told_by es).tree n)
switch_named es n (told zero h) x = ap tower (sym (told_height es n h x.0 x.2))
switch_named es n (told (suc k) h) x = absurd (omega (arith, x.1))
switch_named es n (refused r) x = tt

pub switch_single : (es : List Equation) (n : ℕ) (a b : Told) → SwitchTold es n a → SwitchTold es n b → a ≡ b
switch_single es n (told k h) (told l i) x y = ap₂ told (x.1 ∙ sym y.1) (told_height es n h x.0 x.2 ∙ sym (told_height es n i y.0 y.2))
switch_single es n (told k h) (refused r) x y = absurd (omega (arith, x.0, y.0))
switch_single es n (refused r) (told l i) x y = absurd (omega (arith, x.0, y.0))
switch_single es n (refused r) (refused q) x y = ap refused (x.1 ∙ sym y.1)
