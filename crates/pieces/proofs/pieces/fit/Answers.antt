-- `fit` meets its contract, by its callees'. Assumes nothing.
use Rattle.pieces.specs.Pieces.{fitted}
use Rattle.pieces.proofs.pieces.fit.Goals as goal

pub returns : goal.returns
unfolding fitted
returns c =
    let basis = c.of-basis.ensures in
    let end = c.solve_for-fit.ensures in (
      simp (
        c.keep_terms.ensures,
        c.none-pieces.ensures,
        c.peak_error.ensures,
        end.coefficients_after,
        c.add_ridge.ensures,
        c.add_samples.ensures,
        basis.1,
        basis.0,
        c.of-sampled.ensures,
      ),
      simp (end.value, c.add_ridge.ensures, c.add_samples.ensures, basis.1, basis.0, c.of-sampled.ensures),
    )
