use Rattle.std.proofs.Common.{arith}
use Rattle.sheet.proofs.Models.{sheet_of}
use Rattle.sheet.proofs.writing.OpenSheet.add_compound.Goals as goal

pub new-requires : goal.new-requires
new-requires c =
    omega (arith, c.requires.writable.arity, (sheet_of c.args.self.now).symbols.small c.args.symbol c.requires.writable.symbol)
