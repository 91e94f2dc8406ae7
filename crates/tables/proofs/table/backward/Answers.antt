use Rattle.std.proofs.Common.{◌≡◌, ℕ, ◌<◌, true, length, refl, arith}
use Rattle.model.specs.Parts.{parts}
use Rattle.meaning.proofs.Rows.{length_parts}
use Rattle.meaning.proofs.Choosing.{tallied_back, cheap_parts}
use Rattle.meaning.specs.Models.{yes_no}
use Rattle.meaning.proofs.Lawful.{yes_no_laws}
use Rattle.tables.proofs.table.backward.Goals as goal

pub returns : goal.returns
returns g c =
    let ks = c.args.parts.kinds.now in
    let ss = c.args.parts.sets.now in
    let w = c.args.table.now.width in
    let adm = (g.G.Goal.means c.args.goal.now).admits in
    let bound : (t : ℕ) → adm t ≡ true → t < w = λ t y. omega (arith, c.requires.wide, g.met.G.Goal.bounded c.args.goal.now t y) in
    record {
      cells = tallied_back yes_no yes_no_laws adm w bound (parts ks ss) (cheap_parts ks ss) (length ks) _ _ c.requires.ready.pos (length_parts ks ss c.args.parts.same) c.fill_back.auto.cells c.requires.ready.room c.fill_back.ensures;
      rows = record { width = refl; long = c.fill_back.auto.cells; name = refl };
    }
