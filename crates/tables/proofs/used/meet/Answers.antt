use Rattle.std.proofs.Common.{sym, ◌∙◌, inl, inr, arith}
use Rattle.std.proofs.lemmas.Bool.{eqb-true, eq-eqb}
use Rattle.tables.proofs.Meeting.{met_came, met_comes}
use Rattle.tables.proofs.used.meet.Goals as goal

pub returns : goal.returns
returns c = (
  (λ e. elim (met_came c.args.ahead.now c.args.back.now 0 (omega arith) c.requires (sym c.met.ensures ∙ eqb-true c.met.result 1 e)) [ inl none ↦ absurd (omega arith) | inr w ↦ w ]),
  (λ w. eq-eqb c.met.result 1 (c.met.ensures ∙ met_comes c.args.ahead.now c.args.back.now 0 (omega arith) c.requires w.0 w.1.0 w.1.1)),
)
