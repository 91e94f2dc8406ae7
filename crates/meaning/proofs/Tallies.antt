-- The tally of a plan is the tally of the register's loads; the standing sets hold what those use.
use Rattle.std.proofs.Common.{◌≡◌, ℕ, ◌<◌, List, length, get_or, ap, ◌∙◌}
use Rattle.meaning.specs.Claims.{TallyStands}
use Rattle.meaning.specs.Measures.{Means}
use Rattle.meaning.specs.Plan.{Shows, State}
use Rattle.meaning.specs.Problems.{Problem, allowed_sets, fitting, kinds_of, uses}
use Rattle.meaning.specs.Register.{Register, loads_of}
use Rattle.meaning.specs.Tallies.{chain_of, join_of, tally_by, tally_over}
use Rattle.model.specs.Parts.{parts}
use Rattle.model.specs.Sets.{set_of}
use Rattle.meaning.proofs.Same.{chain_same, map_same}
use Rattle.meaning.proofs.Nested.{sets_long}
use Rattle.meaning.proofs.Standing.{allowed_long, support_at}
use Rattle.meaning.proofs.Steps.{standing_loads_lem}

pub tally_stands : {V : Type 0} (m : Means V) → TallyStands m
unfolding tally_by
tally_stands m c s r sh =
    let long : length s.standing ≡ kinds_of c = sets_long c s.standing r.ruled sh.now_stand in
    ap (join_of m) (map_same (chain_of m (parts c.kinds s.standing)) (chain_of m (parts c.kinds (allowed_sets c)))
    (chain_same m c.kinds s.standing (allowed_sets c) long (allowed_long c)) (fitting c s.standing))
    ∙ ap (tally_over m (parts c.kinds (allowed_sets c))) (standing_loads_lem c s.standing r.ruled sh.now_stand)

pub set_stands : (c : Problem) (s : State) (r : Register) → Shows c s r → (j : ℕ) → j < kinds_of c → get_or s.standing j 0 ≡ set_of (uses (loads_of c r.ruled) j)
set_stands c s r sh j h = ap (λ (ss : List ℕ). get_or ss j 0) sh.now_stand.sets_are ∙ support_at (kinds_of c) (loads_of c r.ruled) j h
