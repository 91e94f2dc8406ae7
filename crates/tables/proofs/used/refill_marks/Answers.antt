use Rattle.std.proofs.Common.{◌≡◌, refl}
use Rattle.std.proofs.lemmas.Slice.Eq.{slice_eq-Decides}
use Rattle.std.proofs.lemmas.Bool.Decides.{Decides-eqb}
use Rattle.model.specs.Parts.{parts}
use Rattle.meaning.specs.Cells.{tallies, tallies_back}
use Rattle.meaning.specs.Models.{yes_no}
use Rattle.tables.proofs.Both.{kept_marks}
use Rattle.tables.proofs.used.refill_marks.Goals as goal

pub returns-then-eq : goal.returns-then-eq
returns-then-eq g c =
    let ks = c.args.parts.kinds.now in
    let w = c.args.ahead.now.width in
    let adm = (g.G.Goal.means c.args.goal.now).admits in
    let same : c.args.old.now ≡ c.args.parts.sets.now = (slice_eq-Decides Decides-eqb _ _ _ c.eq.ensures).0 c.if-eq.true in
    record {
      ahead = kept_marks (λ ss. tallies yes_no (parts ks ss) w) _ _ _ same c.requires.held.ahead;
      back = kept_marks (λ ss. tallies_back yes_no adm (parts ks ss) w) _ _ _ same c.requires.held.back;
      ahead_rows = record { width = refl; long = refl; name = refl };
      back_rows = record { width = refl; long = refl; name = refl };
    }
