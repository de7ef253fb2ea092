-- Laws of the numbers of edges and of the batches that hold them. Assumes nothing.
use Rattle.std.specs.Prelude.{◌≡◌, refl, Bool, true, false, cond, List, [], ◌∷◌, eqb, ltb, length, get_or, drop}
use Rattle.std.proofs.Common.{sym, ◌∙◌, zero-add, add-one, length-drop, drop-cons, ltb-true, ltb-false, eqb-true}
use Rattle.std.proofs.Math.Path.{ap}
use Prim.Native.Nat.{ℕ, zero, suc, ◌+◌, ◌*◌, ◌-◌, ◌/◌, ◌%◌, ◌≤◌, ◌<◌}
use native.Mathlib.Omega.{arith}
use Rattle.std.proofs.lemmas.Bool.{eqb-false}
use Rattle.mesh.specs.Corners.{Below}
use Rattle.near.specs.Near.{inside, NoneWithin, behind, Listed}
use Rattle.near.specs.NearLaws.{within_part, inside_no}
use Rattle.closed.specs.declared.gather.Batch.{Batch}
use Rattle.edges.specs.Numbers.{code, Faced}
use Rattle.sort.specs.Order.{is, copies, All, Rising, Ordered}
use Rattle.sort.specs.OrderLaws.{is_yes, is_no, is-pair, copies-next, copies-le, copies-past, copies-none, copies-two}
use Rattle.sort.specs.OrderLaws.{all_moved, all_none}
use Rattle.closed.specs.Held.{tally, Cut, Sound, Gathered, Halved, Paired, Unpaired, Matched, Unmatched}

-- ---- a face taken off the faces
two : (i : ℕ) → suc (suc i) ≡ i + 2
two i = omega arith

three : (i : ℕ) → suc (suc (suc i)) ≡ i + 3
three i = omega arith

pub peel : (ks : List ℕ) (i : ℕ) → i + 2 < length ks
    → drop i ks ≡ get_or ks i 0 ∷ get_or ks (i + 1) 0 ∷ get_or ks (i + 2) 0 ∷ drop (i + 3) ks
peel ks i h =
    let a = drop-cons ks i 0 (omega arith) in
    let b = drop-cons ks (suc i) 0 (omega arith) in
    let d = drop-cons ks (suc (suc i)) 0 (omega arith) in
    rw (a, b, d, three i, two i, add-one i) refl

pub few : (ks : List ℕ) (i : ℕ) → length ks ≤ i + 2 → length (drop i ks) ≤ 2
few ks i h = simp length-drop (omega arith)

pub tally-few : (c : ℕ) (l : List ℕ) → length l ≤ 2 → tally c l ≡ 0
unfolding tally
tally-few c [] h = refl
tally-few c (x ∷ []) h = refl
tally-few c (x ∷ y ∷ []) h = refl
tally-few c (x ∷ y ∷ z ∷ l) h = absurd (omega arith)

-- ---- a batch that grows
-- a batch of n words
abbrev pub counted : Batch → ℕ → Batch
counted b n = record { count = n; end = b.end }

pub gathered_none : {ks xs : List ℕ} {low : ℕ} {b : Batch} → b.count ≡ 0 → length xs ≡ 61440
    → b.end ≤ 1099511627776 → low < b.end → Gathered ks low b xs 0
unfolding copies
gathered_none {ks} {xs} {low} {b} z l e h =
    record {
      sound =
          record {
            long = l;
            room = omega arith;
            first = omega arith;
            last = e;
            within = all_none (omega arith);
          };
      same = λ c f g. ap (λ (n : ℕ). copies c xs n + tally c ks) z ∙ zero-add (tally c ks);
      stuck = λ g. absurd (omega arith);
    }

pub face_put : {ks : List ℕ} {low i n : ℕ} {b : Batch} {xs ys : List ℕ} → Gathered ks low b xs i → i + 2 < length ks
    → b.count + 3 ≤ 61440
    → Faced (2 * low) (2 * b.end) (get_or ks i 0) (get_or ks (i + 1) 0) (get_or ks (i + 2) 0) xs b.count ys n
    → Gathered ks low (counted b n) ys (i + 3)
unfolding tally
face_put {ks} {low} {i} g h r f =
    let s = g.sound in
    record {
      sound =
          record {
            long = f.long ∙ s.long;
            room = let e = f.more in omega arith;
            first = s.first;
            last = s.last;
            within = f.within s.within;
          };
      same = λ c k j.
          let t = ap (tally c) (peel ks i h) in
          let o = g.same c k j in
          let e = f.same c k j in
          omega (arith, t, o, e);
      stuck = g.stuck;
    }

-- the faces from i to j have no number of the range
further : {ks : List ℕ} {low i j : ℕ} {b : Batch} {xs : List ℕ} → Gathered ks low b xs i
    → ((c : ℕ) → 2 * low ≤ c → c < 2 * b.end → tally c (drop j ks) ≡ tally c (drop i ks)) → Gathered ks low b xs j
further {b = b} {xs = xs} g f =
    record {
      sound = g.sound;
      same = λ c h l. ap (λ (z : ℕ). copies c xs b.count + z) (f c h l) ∙ g.same c h l;
      stuck = g.stuck;
    }

pub gathered_at : {ks : List ℕ} {low i j : ℕ} {b : Batch} {xs : List ℕ} → Gathered ks low b xs i → i ≡ j
    → Gathered ks low b xs j
gathered_at {ks} {low} {i} {j} {b} {xs} g e = rw (← e) g

pub gathered_all : {ks : List ℕ} {low i : ℕ} {b : Batch} {xs : List ℕ} → length ks ≤ i + 2 → Gathered ks low b xs i
    → Gathered ks low b xs (length ks)
gathered_all {ks} {i = i} h g = further g
    (λ c f l. tally-few c (drop (length ks) ks) (few ks (length ks) (omega arith))
    ∙ sym (tally-few c (drop i ks) (few ks i h)))

-- ---- a batch that is halved
pub cut-less : {end m n : ℕ} {xs : List ℕ} → 0 < m → m ≤ n → All (λ (x : ℕ). end ≤ x) xs m n → end ≤ get_or xs (m - 1) 0
    → All (λ (x : ℕ). end ≤ x) xs (m - 1) n
cut-less {end} {m} {n} {xs} h g a w = record { at = λ i f b. go i f b (eqb i (m - 1)) refl }
  where
    go : (i : ℕ) → m - 1 ≤ i → i < n → (t : Bool) → eqb i (m - 1) ≡ t → end ≤ get_or xs i 0
    go i f b true e = rw (eqb-true i (m - 1) e) w
    go i f b false e = let d = eqb-false i (m - 1) e in a.at i (omega arith) b

module _ {low m : ℕ} {b : Batch} {xs ys : List ℕ} (t : Sound low b xs) (four : 4 ≤ b.count)
    (o : Ordered 0 b.count xs ys) (k : Cut (2 * (get_or ys (b.count / 2) 0 / 2)) ys (b.count / 2) m) where
  inner : (i : ℕ) → i < b.count → (2 * low ≤ get_or ys i 0) × (get_or ys i 0 < 2 * b.end)
  inner i h = (all_moved t.within o.moved).at i (omega arith) h

  later : (c : ℕ) → c < 2 * (get_or ys (b.count / 2) 0 / 2) → (i : ℕ) → m ≤ i → i < b.count → (u : Bool)
      → ltb i (b.count / 2) ≡ u → get_or ys i 0 ≡ c → ⊥
  later c h i a f true e g = let v = k.above.at i a (ltb-true i (b.count / 2) e) in omega arith
  later c h i a f false e g =
      let v = o.rising.order (b.count / 2) i (omega arith) (ltb-false i (b.count / 2) e) f in omega arith

  earlier : (i : ℕ) → i < m → get_or ys i 0 < 2 * (get_or ys (b.count / 2) 0 / 2)
  earlier i h =
      let f = k.fewer in
      let u = k.under (m - 1) (omega arith) in
      let v = o.rising.order i (m - 1) (omega arith) (omega arith) (omega arith) in
      omega arith

  pub halved : Halved low b xs (record { count = m; end = get_or ys (b.count / 2) 0 / 2 }) ys
  halved =
      let f = k.fewer in
      let n = b.count in
      let v = (inner (n / 2) (omega arith)).1 in
      let last = t.last in
      let room = t.room in
      record {
        sound =
            record {
              long = o.moved.long ∙ t.long;
              room = omega arith;
              first = t.first;
              last = omega arith;
              within = record { at = λ i a h. ((inner i (omega arith)).0, earlier i h) };
            };
        half = f;
        less = omega arith;
        same = λ c h. sym (copies-past c ys m n (omega arith) (λ i a g. later c h i a g (ltb i (n / 2)) refl))
            ∙ o.moved.same c n (omega arith);
        stuck = λ h.
            let two = copies-two low ys (n / 2 + 1)
            (λ i g. let u = (inner i (omega arith)).0 in let w = o.rising.order i (n / 2) (omega arith)
            (omega arith) (omega arith) in (u, omega arith)) in
            let p = copies-le (2 * low) ys (n / 2 + 1) n (omega arith) in
            let q = copies-le (2 * low + 1) ys (n / 2 + 1) n (omega arith) in
            let r = o.moved.same (2 * low) n (omega arith) in
            let s = o.moved.same (2 * low + 1) n (omega arith) in
            omega arith;
      }

pub gathered_halved : {ks : List ℕ} {low i : ℕ} {b h : Batch} {xs ys : List ℕ} → Gathered ks low b xs i → 0 < b.count
    → Halved low b xs h ys → Gathered ks low h ys i
gathered_halved {ks} {low} g p h =
    record {
      sound = h.sound;
      same = λ c k l. let m = h.less in let e = h.same c l in let f = g.same c k (omega arith) in omega arith;
      stuck = λ e.
          let z = g.sound.within.at 0 (omega arith) p in
          let z0 = z.0 in
          let z1 = z.1 in
          let k = g.same (2 * low) (omega arith) (omega arith) in
          let l = g.same (2 * low + 1) (omega arith) (omega arith) in
          let s = h.stuck e in
          omega arith;
    }

-- ---- words in pairs
-- of words in order, the first i are whole pairs
pub record Pairs (xs : List ℕ) (i : ℕ) : Type 0 where
  pub both : (k : ℕ) → copies (2 * k) xs i ≡ copies (2 * k + 1) xs i
  pub single : (k : ℕ) → copies (2 * k) xs i ≤ 1
  pub last : (j : ℕ) → j + 1 ≡ i → get_or xs j 0 % 2 ≡ 1

pub pairs_none : (xs : List ℕ) → Pairs xs 0
unfolding copies
pairs_none xs = record { both = λ k. refl; single = λ k. omega arith; last = λ j h. absurd (omega arith) }

two-more : (c i : ℕ) (xs : List ℕ) → copies c xs (i + 2)
    ≡ is (get_or xs (i + 1) 0) c + (is (get_or xs i 0) c + copies c xs i)
unfolding copies
two-more c i xs = rw (← two i, add-one i) refl

module _ {xs : List ℕ} {n i : ℕ} (r : Rising xs 0 n) (p : Pairs xs i) where
  -- an even word is greater than all before it
  fresh : i < n → get_or xs i 0 % 2 ≡ 0 → copies (get_or xs i 0) xs i ≡ 0
  fresh h v = copies-none (get_or xs i 0) xs i (λ j b e.
      let a = r.order j (i - 1) (omega arith) (omega arith) (omega arith) in
      let d = r.order (i - 1) i (omega arith) (omega arith) h in
      let l = p.last (i - 1) (omega arith) in
      omega arith)

  pub pairs_one : i + 1 < n → get_or xs i 0 % 2 ≡ 0 → get_or xs (i + 1) 0 ≡ get_or xs i 0 + 1 → Pairs xs (i + 2)
  pairs_one h v e =
      record {
        both = λ k. (at k (eqb (get_or xs i 0) (2 * k)) refl).0;
        single = λ k. (at k (eqb (get_or xs i 0) (2 * k)) refl).1;
        last = λ j g. let w : j ≡ i + 1 = omega arith in rw w (omega arith);
      }
    where
      at : (k : ℕ) (t : Bool) → eqb (get_or xs i 0) (2 * k) ≡ t
          → (copies (2 * k) xs (i + 2) ≡ copies (2 * k + 1) xs (i + 2)) × (copies (2 * k) xs (i + 2) ≤ 1)
      at k true w =
          let d = eqb-true (get_or xs i 0) (2 * k) w in
          let a = is_yes (get_or xs i 0) (2 * k) d in
          let b = is_no (get_or xs (i + 1) 0) (2 * k) (λ z. omega arith) in
          let f = is_no (get_or xs i 0) (2 * k + 1) (λ z. omega arith) in
          let g = is_yes (get_or xs (i + 1) 0) (2 * k + 1) (omega arith) in
          let m = two-more (2 * k) i xs in
          let l = two-more (2 * k + 1) i xs in
          let o = p.both k in
          let q : copies (2 * k) xs i ≡ 0 = rw (← d) (fresh (omega arith) v) in
          (omega arith, omega arith)
      at k false w =
          let d = eqb-false (get_or xs i 0) (2 * k) w in
          let a = is_no (get_or xs i 0) (2 * k) d in
          let b = is_no (get_or xs (i + 1) 0) (2 * k) (λ z. omega arith) in
          let f = is_no (get_or xs i 0) (2 * k + 1) (λ z. omega arith) in
          let g = is_no (get_or xs (i + 1) 0) (2 * k + 1) (λ z. d (omega arith)) in
          let m = two-more (2 * k) i xs in
          let l = two-more (2 * k + 1) i xs in
          let o = p.both k in
          let u = p.single k in
          (omega arith, omega arith)

  -- a word whose partner should have stood before it
  pub unpaired_late : i < n → get_or xs i 0 % 2 ≡ 1 → Unpaired xs n (get_or xs i 0)
  unpaired_late h v a b =
      let k = get_or xs i 0 / 2 in
      let w = copies-past (2 * k) xs i n (omega arith)
      (λ j c d e. let u = r.order i j (omega arith) c d in omega arith) in
      let o = p.both k in
      let m = copies-next (2 * k + 1) xs i in
      let y = is_yes (get_or xs i 0) (2 * k + 1) (omega arith) in
      let l = copies-le (2 * k + 1) xs (i + 1) n (omega arith) in
      omega arith

  -- a word whose partner does not come after it
  unpaired-lone : i < n → get_or xs i 0 % 2 ≡ 0 → ((j : ℕ) → i < j → j < n → get_or xs j 0 ≡ get_or xs i 0 + 1 → ⊥)
      → Unpaired xs n (get_or xs i 0)
  unpaired-lone h v f a b =
      let k = get_or xs i 0 / 2 in
      let w = copies-past (2 * k + 1) xs i n (omega arith) (λ j c d e. other k refl j c d e (ltb i j) refl) in
      let o = p.both k in
      let m = copies-next (2 * k) xs i in
      let y = is_yes (get_or xs i 0) (2 * k) (omega arith) in
      let l = copies-le (2 * k) xs (i + 1) n (omega arith) in
      omega arith
    where
      other : (k : ℕ) → k ≡ get_or xs i 0 / 2 → (j : ℕ) → i ≤ j → j < n → get_or xs j 0 ≡ 2 * k + 1 → (t : Bool)
          → ltb i j ≡ t → ⊥
      other k z j c d e true g = f j (ltb-true i j g) d (omega arith)
      other k z j c d e false g =
          let u = ltb-false i j g in
          let q : j ≡ i = omega arith in
          let s = ap (λ (y : ℕ). get_or xs y 0) q in
          omega arith

  pub unpaired_next : i + 1 < n → get_or xs i 0 % 2 ≡ 0 → (get_or xs (i + 1) 0 ≡ get_or xs i 0 + 1 → ⊥)
      → Unpaired xs n (get_or xs i 0)
  unpaired_next h v f = go (eqb (get_or xs (i + 1) 0) (get_or xs i 0)) refl
    where
      go : (t : Bool) → eqb (get_or xs (i + 1) 0) (get_or xs i 0) ≡ t → Unpaired xs n (get_or xs i 0)
      go true e = λ a b.
          let k = get_or xs i 0 / 2 in
          let d = eqb-true (get_or xs (i + 1) 0) (get_or xs i 0) e in
          let m = two-more (2 * k) i xs in
          let y = is_yes (get_or xs i 0) (2 * k) (omega arith) in
          let z = is_yes (get_or xs (i + 1) 0) (2 * k) (omega arith) in
          let l = copies-le (2 * k) xs (i + 2) n (omega arith) in
          omega arith
      go false e = unpaired-lone (omega arith) v (λ j c g w.
          let d = eqb-false (get_or xs (i + 1) 0) (get_or xs i 0) e in
          let u = r.order i (i + 1) (omega arith) (omega arith) h in
          let s = r.order (i + 1) j (omega arith) (omega arith) g in
          omega (arith, f))

  pub unpaired_end : i < n → n ≤ i + 1 → Unpaired xs n (get_or xs i 0)
  unpaired_end h g = go (eqb (get_or xs i 0 % 2) 0) refl
    where
      go : (t : Bool) → eqb (get_or xs i 0 % 2) 0 ≡ t → Unpaired xs n (get_or xs i 0)
      go true e = unpaired-lone h (eqb-true (get_or xs i 0 % 2) 0 e) (λ j a b w. omega arith)
      go false e = unpaired_late h (let d = eqb-false (get_or xs i 0 % 2) 0 e in omega arith)

pub pairs_all : {xs : List ℕ} {i n : ℕ} → Pairs xs i → i ≡ n → Paired xs n
pairs_all {xs} p e = rw (← e) (record { both = p.both; single = p.single })

-- ---- faces without a corner in a range
code_out : (low end c x y : ℕ) → x < 1048576 → y < 1048576 → inside (low / 1048576) (end / 1048576) x ≡ false
    → inside (low / 1048576) (end / 1048576) y ≡ false → 2 * low ≤ c → c < 2 * end → is (code x y) c ≡ 0
unfolding code
code_out low end c x y bx by hx hy h g = is_no (code x y) c (go (ltb x y))
  where
    go : (t : Bool) → cond t (2 * (x * 1048576 + y)) (2 * (y * 1048576 + x) + 1) ≡ c → ⊥
    go true w = inside_no (low / 1048576) (end / 1048576) x hx (omega arith) (omega arith)
    go false w = inside_no (low / 1048576) (end / 1048576) y hy (omega arith) (omega arith)

module _ (ks : List ℕ) (low end c : ℕ) (s : Below 1048576 ks) (h : 2 * low ≤ c) (g : c < 2 * end) where
  skip : (m i : ℕ) → i + 3 * m ≤ length ks → NoneWithin ks (low / 1048576) (end / 1048576) i (i + 3 * m)
      → tally c (drop i ks) ≡ tally c (drop (i + 3 * m) ks)
  unfolding tally
  skip zero i l w = let e : i ≡ i + 3 * 0 = omega arith in ap (λ (z : ℕ). tally c (drop z ks)) e
  skip (suc m) i l w =
      let a = code_out low end c (get_or ks i 0) (get_or ks (i + 1) 0) (s.corner i (omega arith))
      (s.corner (i + 1) (omega arith)) (w.none i (omega arith) (omega arith))
      (w.none (i + 1) (omega arith) (omega arith)) h g in
      let b = code_out low end c (get_or ks (i + 1) 0) (get_or ks (i + 2) 0) (s.corner (i + 1) (omega arith))
      (s.corner (i + 2) (omega arith)) (w.none (i + 1) (omega arith) (omega arith))
      (w.none (i + 2) (omega arith) (omega arith)) h g in
      let d = code_out low end c (get_or ks (i + 2) 0) (get_or ks i 0) (s.corner (i + 2) (omega arith))
      (s.corner i (omega arith)) (w.none (i + 2) (omega arith) (omega arith))
      (w.none i (omega arith) (omega arith)) h g in
      let t = ap (tally c) (peel ks i (omega arith)) in
      let r = skip m (i + 3) (omega arith) (within_part w (omega arith) (omega arith)) in
      let e : i + 3 + 3 * m ≡ i + 3 * suc m = omega arith in
      let f = ap (λ (z : ℕ). tally c (drop z ks)) e in
      omega (arith, a, b, d, t, r, f)

pub skipped : {ks : List ℕ} {low from to : ℕ} {b : Batch} {xs : List ℕ} → Below 1048576 ks → from ≤ to
    → 3 * to ≤ length ks → NoneWithin ks (low / 1048576) (b.end / 1048576) (3 * from) (3 * to)
    → Gathered ks low b xs (3 * from) → Gathered ks low b xs (3 * to)
skipped {ks} {low} {from} {to} {b} s h l w g =
    let e : 3 * from + 3 * (to - from) ≡ 3 * to = omega arith in
    further g (λ c k m. ap (λ (z : ℕ). tally c (drop z ks)) (sym e)
    ∙ sym (skip ks low b.end c s k m (to - from) (3 * from) (omega arith)
    (within_part w (omega arith) (omega arith))))

-- ---- a batch that takes the faces of a list: to the next of these, and past the last
module _ {ks ps : List ℕ} {low from to m : ℕ} {b : Batch} {xs : List ℕ} (k : ℕ) (s : Below 1048576 ks)
    (r : 3 * to ≤ length ks) (l : Listed ks (low / 1048576) (b.end / 1048576) 1 from to ps m)
    (g : Gathered ks low b xs (3 * behind 1 from ps k)) where
  pub gathered_next : k < m → Gathered ks low b xs (3 * get_or ps k 0)
  gathered_next h = let e = l.short k h in skipped s (l.rising k h) (omega arith) (l.between k h) g

  pub gathered_past : k ≡ m → Gathered ks low b xs (3 * to)
  gathered_past e =
      let d = ap (behind 1 from ps) e in
      let z = l.stops in
      skipped s (omega arith) r (within_part l.rest (omega arith) (omega arith)) g

-- ---- ranges that are clear
pub matched_none : {ks : List ℕ} → Matched ks 0
matched_none = record { both = λ k h. absurd (omega arith); single = λ k h. absurd (omega arith) }

-- a range whose words are all there, put in order
module _ {ks : List ℕ} {low : ℕ} {batch : Batch} {xs ys : List ℕ} (g : Gathered ks low batch xs (length ks))
    (s : Ordered 0 batch.count xs ys) where
  full : (c : ℕ) → 2 * low ≤ c → c < 2 * batch.end → copies c ys batch.count ≡ tally c ks
  full c a b =
      let e = s.moved.same c batch.count (omega arith) in
      let f = g.same c a b in
      let z = tally-few c (drop (length ks) ks) (few ks (length ks) (omega arith)) in
      omega arith

  pub matched_more : Matched ks low → Paired ys batch.count → Matched ks batch.end
  matched_more m p =
      record {
        both = λ k h. (at k h (ltb k low) refl).0;
        single = λ k h. (at k h (ltb k low) refl).1;
      }
    where
      at : (k : ℕ) → k < batch.end → (t : Bool) → ltb k low ≡ t
          → (tally (2 * k) ks ≡ tally (2 * k + 1) ks) × (tally (2 * k) ks ≤ 1)
      at k h true e = (m.both k (ltb-true k low e), m.single k (ltb-true k low e))
      at k h false e =
          let l = ltb-false k low e in
          let a = full (2 * k) (omega arith) (omega arith) in
          let b = full (2 * k + 1) (omega arith) (omega arith) in
          let o = p.both k in
          let q = p.single k in
          (omega arith, omega arith)

  pub unmatched_odd : (r : ℕ) → r < batch.count → Unpaired ys batch.count (get_or ys r 0) → Unmatched ks
  unmatched_odd r h o =
      let k = get_or ys r 0 / 2 in
      let w = (all_moved g.sound.within s.moved).at r (omega arith) h in
      let w0 = w.0 in
      let w1 = w.1 in
      let a = full (2 * k) (omega arith) (omega arith) in
      let b = full (2 * k + 1) (omega arith) (omega arith) in
      let i = is-pair k (get_or ys r 0) (omega arith) (omega arith) in
      let p = copies-le (2 * k) ys (r + 1) batch.count (omega arith) in
      let q = copies-le (2 * k + 1) ys (r + 1) batch.count (omega arith) in
      let u = copies-next (2 * k) ys r in
      let v = copies-next (2 * k + 1) ys r in
      record { k = k; some = omega arith; odd = λ x y. o (a ∙ x) (b ∙ y) }

pub unmatched_stuck : {ks : List ℕ} {low i : ℕ} {b : Batch} {xs : List ℕ} → Gathered ks low b xs i → b.end ≤ low
    → Unmatched ks
unmatched_stuck {low = low} g h = let s = g.stuck h in record { k = low; some = omega arith; odd = λ a b. omega arith }

pub matched_less : {ks : List ℕ} {low top : ℕ} → Matched ks low → top ≤ low → Matched ks top
matched_less m h = record { both = λ k l. m.both k (omega arith); single = λ k l. m.single k (omega arith) }
