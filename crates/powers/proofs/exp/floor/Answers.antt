-- `powers::exp::floor` meets its contract: below 0 the size is rounded up. Assumes nothing.
use Rattle.std.proofs.Common.{◌≡◌, ◌≤ℤ◌, ◌-ℤ◌, ◌≤◌, ◌<◌, ◌^◌, ℕ, ◌-◌, ℤ, T, pos, negsuc, sym, ap, ◌∙◌, subst, arith, rules, to_z, of_z, w64}
use Rattle.std.proofs.lemmas.Int.{ints}
use Rattle.powers.specs.Exp.{floor}
use Rattle.powers.proofs.Wholes.{floor-neg, part_of}
use Rattle.powers.proofs.exp.floor.Goals as goal

-- a whole number, told as the contract does
told : (z n f : ℤ) → z ≡ n → f ≡ n → negsuc 1079 ≤ℤ n → n ≤ℤ pos 1024 → (z ≡ f) × (negsuc 1079 ≤ℤ z) × (z ≤ℤ pos 1024)
told z n f e g l h = (e ∙ sym g, rw e l, rw e h)

pub truncating_f64_to_u64-requires : goal.truncating_f64_to_u64-requires
truncating_f64_to_u64-requires c =
    let p = part_of c.args.w c.requires.fact_1 c.requires.fact_2 c.if-x.false in
    record { lower_bound = p.above; upper_bound = p.below }

most : (w : ℕ) → w ≤ 1024 → w < 2 ^ 63
most w h = omega arith

pub overflow_cast-result-else-x : goal.overflow_cast-result-else-x
overflow_cast-result-else-x c =
    let p = part_of c.args.w c.requires.fact_1 c.requires.fact_2 c.if-x.false in
    let l : c.truncating_f64_to_u64.result ≤ 1024 = rw c.truncating_f64_to_u64.ensures p.most in
    search rules

pub returns-then-x : goal.returns-then-x
returns-then-x c =
    let r = c.raised in
    let f : floor c.args.w ≡ negsuc (r.result - 1)
    = floor-neg c.args.w (subst T (sym c.if-x.true) tt) c.requires.fact_1
    ∙ ap (λ (k : ℕ). negsuc (k - 1)) (sym r.ensures.0) in
    let z : to_z w64 (of_z w64 (pos 0 -ℤ to_z w64 r.result)) ≡ negsuc (r.result - 1) = omega (arith, ints, r.ensures.1, r.ensures.2) in
    told _ (negsuc (r.result - 1)) _ z f (omega (arith, ints, r.ensures.1, r.ensures.2)) (omega (arith, ints, r.ensures.1, r.ensures.2))

pub returns-else-x : goal.returns-else-x
returns-else-x c =
    let t = c.truncating_f64_to_u64 in
    let p = part_of c.args.w c.requires.fact_1 c.requires.fact_2 c.if-x.false in
    let f : floor c.args.w ≡ pos t.result = p.is ∙ ap pos (sym t.ensures) in
    let l : t.result ≤ 1024 = rw t.ensures p.most in
    let z : to_z w64 t.result ≡ pos t.result = omega (arith, ints) in
    told _ (pos t.result) _ z f (omega (arith, ints)) (omega (arith, ints))
