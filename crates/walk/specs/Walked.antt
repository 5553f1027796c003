-- What the code of a walk answers and leaves behind. Assumes nothing.
use Rattle.std.specs.Prelude.{◌≡◌, ℕ, ◌<◌, Bool, true, false, List, [], ◌∷◌, ◌++◌, length, ◌≢◌}
use Rattle.logic.specs.Theories.{Theory, Clash}
use Rattle.logic.specs.Answers.{Kept}
use Rattle.logic.specs.declared.Equation.{Equation}
use Rattle.logic.specs.declared.Logic.{Ghosts}
use Rattle.rules.specs.declared.Literal.{Literal}
use Rattle.rules.specs.Walks.{End, Walk, Tries}
use Rattle.rules.specs.Walks.End.{found, dead, spent}
use Rattle.walk.specs.declared.Word.{Word}
use Rattle.walk.specs.declared.Word.TheVariants as W

-- Where S stood, an equation was assumed, and fs stand now: it is taken; or it is not, and where the theory has it and
-- there is room, it clashes.
abbrev pub Tried : Theory → List Equation → Equation → Bool → List Equation → Type 0
Tried t S e true fs = (Clash t S e → ⊥) × (fs ≡ S ++ (e ∷ []))
Tried t S e false fs = (t.has e ≡ true → length S < 256 → Clash t S e) × (fs ≡ S)

-- The end of a walk that a word stands for, where fs stand after it.
abbrev pub end_of : Word → List Equation → End
end_of W.Found fs = found fs
end_of W.None fs = dead
end_of W.Spent fs = spent

-- Whether the word is found.
abbrev pub is_found : Word → Bool
is_found W.Found = true
is_found W.None = false
is_found W.Spent = false

-- What holds where the word is found, and where it is none.
abbrev pub IfFound : Word → Type 0 → Type 0
IfFound W.Found P = P
IfFound W.None P = Unit {0}
IfFound W.Spent P = Unit {0}

abbrev pub IfNone : Word → Type 0 → Type 0
IfNone W.Found P = Unit {0}
IfNone W.None P = P
IfNone W.Spent P = Unit {0}

-- Of a logic, by its ghost members.
module _ {X : Type 0} (G : Ghosts X) where
  -- The walk from the logic s, after n trials, ended with the word a after m; it left the logic z and the choices cs.
  pub record Walked (R : List (List Literal)) (b : ℕ) (s : X) (n : ℕ) (a : Word) (m : ℕ) (z : X) (cs : List Equation) : Type 0 where
    pub kept : Kept (G.theory s) (G.theory z) (G.telling s) (G.telling z) (G.lawful z)
    pub walk : Walk (G.theory s) R b (G.stands s) n m (end_of a (G.stands z))
    pub bare : IfNone a (G.stands z ≡ G.stands s)
    pub shown : IfFound a (cs ≡ G.stands z)

  -- In the walk from s, after n trials, the rule's equations `rest` are still to be tried, with `trials` made: whatever
  -- they come to, the walk comes to.
  pub record Trying (R : List (List Literal)) (b : ℕ) (s : X) (n : ℕ) (rest : List Equation) (trials : ℕ) (z : X) : Type 0 where
    pub kept : Kept (G.theory s) (G.theory z) (G.telling s) (G.telling z) (G.lawful z)
    pub bare : G.stands z ≡ G.stands s
    pub onward : (m : ℕ) (o : End) → Tries (G.theory s) R b (G.stands s) rest trials m o → Walk (G.theory s) R b (G.stands s) n m o

  -- A whole walk from s, where nothing stood, ended with the word a after m trials; the choices cs stand in z, none unless
  -- the word is found.
  pub record Asked (R : List (List Literal)) (b : ℕ) (s : X) (a : Word) (m : ℕ) (z : X) (cs : List Equation) : Type 0 where
    pub kept : Kept (G.theory s) (G.theory z) (G.telling s) (G.telling z) (G.lawful z)
    pub walk : Walk (G.theory s) R b [] 0 m (end_of a cs)
    pub shown : cs ≡ G.stands z
    pub bare : (a ≢ W.Found) → cs ≡ []
