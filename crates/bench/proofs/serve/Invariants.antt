use Rattle.session.specs.Session.{Small, session}
use Rattle.program.specs.Bytes.{held_with}
use Rattle.program.specs.Bench.{Reached}
use Rattle.bench.proofs.serve.Given as goal

abbrev pub invariant-loop-turn : goal.invariant-loop-turn
invariant-loop-turn g l = Small l.st.opening
    × Reached (held_with (session l.st.opening l.floats l.words l.coords l.corners) l.line l.st.count)
