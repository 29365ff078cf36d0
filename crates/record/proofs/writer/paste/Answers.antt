use Rattle.std.proofs.Common.{refl, arith}
use Rattle.record.proofs.Pastes.{pasted_part}
use Rattle.record.proofs.writer.paste.Goals as goal

pub returns : goal.returns
returns c =
    record {
      stands = pasted_part c.args.out.now _ c.args.text.now c.args.at _ c.copy_from_slice.ensures.after (omega arith);
      behind = refl;
    }
