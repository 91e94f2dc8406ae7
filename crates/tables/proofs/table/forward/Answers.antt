use Rattle.std.proofs.Common.{length, refl}
use Rattle.model.specs.Parts.{parts}
use Rattle.meaning.proofs.Rows.{length_parts}
use Rattle.meaning.proofs.Choosing.{tallied, cheap_parts}
use Rattle.tables.proofs.table.forward.Goals as goal

pub returns : goal.returns
returns g c =
    let ks = c.args.parts.kinds.now in
    let ss = c.args.parts.sets.now in
    record {
      cells = tallied g.M.Measure.means g.met.M.Measure.lawful (parts ks ss) (cheap_parts ks ss) c.args.table.now.width (length ks) _ _ c.requires.pos (length_parts ks ss c.args.parts.same) c.fill.auto.cells c.requires.room c.fill.ensures;
      rows = record { width = refl; long = c.fill.auto.cells; name = refl };
    }
