-- Rules as they are kept, and what they say. Assumes nothing.
use Rattle.std.specs.Prelude.{List, map, take}
use Rattle.rules.specs.declared.Literal.{Literal}
use Rattle.walk.specs.declared.rule.Rule.{Rule}

-- The literals of a rule, in written order.
abbrev pub literals_of : Rule → List Literal
literals_of r = take r.len r.literals

-- The rules as lists of literals.
abbrev pub written : List Rule → List (List Literal)
written rs = map literals_of rs
