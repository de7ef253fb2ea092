-- The tokens, written one after the other. Assumes nothing.
use mathlib.Core.Path.{◌≡◌}
use Prim.Native.Nat.{◌+◌, ◌≤◌}
use native.Mathlib.Omega.{arith}
use Rattle.text.specs.Text.{bytes}
use Rattle.text.specs.WriteLaws.{then}
use Rattle.answers.proofs.Writes.{then-three}
use Rattle.answers.proofs.write_report.Goals as goal

pub returns : goal.returns
returns c =
    let m = c.args.m in
    let l0 : c.write_three-a.result ≤ c.args.at + 8 + 50 = c.write_three-a.ensures.upper_bound in
    let l1 : c.write_three-b.result ≤ c.write_three-a.result + 1 + 50 = c.write_three-b.ensures.upper_bound in
    let l2 : c.write_real-c.result ≡ c.write_three-b.result + 1 + 16 = c.write_real-c.ensures.value in
    let w2 = then c.write_real-c.ensures.wrote c.write_counts.ensures.wrote in
    let w1 = then-three (bytes " ") m.applied_scale m.applied_mass m.target_mass
    c.write_three-b.ensures.wrote w2 in record {
      upper_bound = omega (arith, l0, l1, l2, c.write_counts.ensures.upper_bound);
      wrote = then-three (bytes "(report ") m.raw_mass m.rho0_scale m.rho0_mass c.write_three-a.ensures.wrote w1;
    }
