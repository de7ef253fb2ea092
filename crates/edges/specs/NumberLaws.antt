-- Laws of the numbers of edges, and of the words that they are put into. Assumes nothing.
use Rattle.std.specs.Prelude.{◌≡◌, ℕ, ◌+◌, ◌*◌, ◌<◌, ◌≤◌, Bool, true, false, cond, ◌&&◌, List, length, ◌==◌, ◌≢◌}
use Rattle.std.specs.Int.{from_bool}
use Rattle.std.specs.Prelude.{min, max, nat_le, nat_lt, slice_index, slice_set, refl}
use Rattle.std.proofs.Common.{sym, ap, ◌∙◌, true≢false, add-zero, add-one, arith, length-set, get_or-set_same}
use Rattle.std.proofs.Common.{get_or-set_other, le-leb, lt-ltb, leb-true, leb-false, ltb-true, ltb-false, eqb-true}
use Rattle.std.proofs.Math.Bool.{and-eq-true_iff}
use Rattle.std.proofs.lemmas.Bool.{eqb-false}
use Rattle.sort.specs.Order.{is, copies, Within}
use Rattle.sort.specs.OrderLaws.{is_no, copies-above}
use Rattle.edges.specs.Numbers.{code, taken, Put, Faced}

-- ---- a word that is put
pub put_one : (c low end x n : ℕ) (xs : List ℕ) → n < length xs → low ≤ c → c < end
    → copies c (slice_set xs n x) (n + taken low end x) ≡ copies c xs n + is x c
unfolding copies
put_one c low end x n xs h a b = go (nat_le low x && nat_lt x end) refl
  where
    differs : (nat_le low x && nat_lt x end) ≡ false → x ≢ c
    differs e d = true≢false (sym (rw (d, le-leb low c a, lt-ltb c end b) refl) ∙ e)

    go : (t : Bool) → (nat_le low x && nat_lt x end) ≡ t
        → copies c (slice_set xs n x) (n + cond t 1 0) ≡ copies c xs n + is x c
    go true e =
        let p = get_or-set_same xs n x 0 h in
        let q = copies-above c xs n x n (omega arith) in
        rw (add-one n) (omega (arith, ap (λ (z : ℕ). is z c) p, q))
    go false e =
        let q = copies-above c xs n x n (omega arith) in
        let z = is_no x c (differs e) in
        rw (add-zero n) (omega arith)

-- ---- the number of an edge, from its lesser corner, its greater corner and its direction
pub code_of : (a b : ℕ) → 2 * (min a b * 1048576 + max a b) + from_bool (nat_le b a) ≡ code a b
unfolding code
code_of a b = go (nat_lt a b) refl (nat_le b a) refl
  where
    go : (t : Bool) → nat_lt a b ≡ t → (u : Bool) → nat_le b a ≡ u
        → 2 * (min a b * 1048576 + max a b) + from_bool u
        ≡ cond t (2 * (a * 1048576 + b)) (2 * (b * 1048576 + a) + 1)
    go true e false f = let h = ltb-true a b e in omega arith
    go false e true f = let h = leb-true b a f in omega arith
    go true e true f = let h = ltb-true a b e in let g = leb-true b a f in absurd (omega arith)
    go false e false f = let h = ltb-false a b e in let g = leb-false b a f in absurd (omega arith)

-- ---- puts
taken-one : (low end x : ℕ) → taken low end x ≤ 1
taken-one low end x = go (nat_le low x && nat_lt x end)
  where
    go : (t : Bool) → cond t 1 0 ≤ 1
    go true = omega arith
    go false = omega arith

module _ {low end x m n : ℕ} {xs ys : List ℕ} (p : Put low end x xs m ys n) where
  pub put_copies : (c : ℕ) → m < length xs → low ≤ c → c < end → copies c ys n ≡ copies c xs m + is x c
  put_copies c h a b = rw (p.count, p.words) (put_one c low end x m xs h a b)

  pub put_long : length ys ≡ length xs
  put_long = rw p.words (length-set xs m x)

  pub put_more : n ≤ m + 1
  put_more = rw p.count (omega (arith, taken-one low end x))

  pub put_within : m < length xs → Within low end xs m → Within low end ys n
  put_within h w = rw (p.count, p.words) (go (nat_le low x && nat_lt x end) refl)
    where
      go : (t : Bool) → (nat_le low x && nat_lt x end) ≡ t → Within low end (slice_set xs m x) (m + cond t 1 0)
      go true e = record { at = λ i a b. this i b (i == m) refl }
        where
          this : (i : ℕ) → i < m + 1 → (u : Bool) → (i == m) ≡ u
              → (low ≤ slice_index (slice_set xs m x) i) × (slice_index (slice_set xs m x) i < end)
          this i b true d =
              let q = (and-eq-true_iff (nat_le low x) (nat_lt x end)).0 e in
              rw (eqb-true i m d, get_or-set_same xs m x 0 h) (leb-true low x q.0, ltb-true x end q.1)
          this i b false d =
              let n = eqb-false i m d in rw (get_or-set_other xs m i x 0 n) (w.at i (omega arith) (omega arith))
      go false e = record { at = λ i a b. rw (get_or-set_other xs m i x 0 (λ d. omega arith)) (w.at i a (omega arith)) }

-- ---- three puts are a face
module _ {low end x y z m m₁ m₂ m₃ a b d : ℕ} {xs xs₁ xs₂ xs₃ : List ℕ} where
  pub faced : m + 3 ≤ length xs → a ≡ code x y → b ≡ code y z → d ≡ code z x → Put low end a xs m xs₁ m₁
      → Put low end b xs₁ m₁ xs₂ m₂ → Put low end d xs₂ m₂ xs₃ m₃ → Faced low end x y z xs m xs₃ m₃
  faced l ea eb ed p q r =
      let p1 = put_more p in
      let q1 = put_more q in
      let r1 = put_more r in
      let pl = put_long p in
      let ql = put_long q in
      let rl = put_long r in
      record {
        more = omega arith;
        long = omega arith;
        same = λ c k j.
            let hp = put_copies p c (omega arith) k j in
            let hq = put_copies q c (omega arith) k j in
            let hr = put_copies r c (omega arith) k j in
            omega (arith, hp, hq, hr, ap (λ (w : ℕ). is w c) ea, ap (λ (w : ℕ). is w c) eb, ap (λ (w : ℕ). is w c) ed);
        within = λ w. put_within r (omega arith) (put_within q (omega arith) (put_within p (omega arith) w));
      }
