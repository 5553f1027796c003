-- The refusals of a sheet's calls, by their numbers. Assumes nothing.
use Rattle.std.specs.Prelude.{ℕ}
use Rattle.sheet.specs.declared.Refusal.{Refusal}
use Rattle.sheet.specs.declared.Refusal.TheVariants as R

-- 13: an arity over 8. 14: a symbol that the sheet lacks. 15: another number of arguments than the symbol's arity.
-- 16: an argument that is not yet a term. 35: a 17th symbol. 36: a 1,025th term.
abbrev pub refusal_number : Refusal → ℕ
refusal_number R.BigArity = 13
refusal_number R.UnknownSymbol = 14
refusal_number R.WrongCount = 15
refusal_number R.NoTerm = 16
refusal_number R.ManySymbols = 35
refusal_number R.ManyTerms = 36
