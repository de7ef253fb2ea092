-- Laws of closed meshes: what one face adds, and that numbers in pairs are edges in pairs. Assumes nothing.
use Rattle.base.specs.Answers.{passed}
use Rattle.std.specs.Prelude.{◌≡◌, refl, Bool, true, false, not, ◌&&◌, cond, List, [], ◌∷◌, ℕ, suc, ◌+◌, ◌*◌, ◌/◌, ◌%◌, Err}
use Rattle.std.specs.Prelude.{◌≤◌, ◌<◌, eqb, ltb, length, get_or, drop}
use Rattle.std.proofs.Common.{sym, ap, ◌∙◌, true≢false, arith, eq-eqb, ltb-true, ltb-false, eqb-true}
use Rattle.std.proofs.Math.Bool.{and_assoc, and-true, and-eq-true_iff}
use Rattle.std.proofs.lemmas.Bool.{eqb-false, not-true, not-false}
use Rattle.closed.specs.Closed.{Edge, edge, same, edges, occurrences, distinct_corners, once, each, passes}
use Rattle.closed.specs.Closed.{closed_check}
use Rattle.sort.specs.Order.{is}
use Rattle.sort.specs.OrderLaws.{is_yes, is_no}
use Rattle.near.specs.NearLaws.{neither}
use Rattle.edges.specs.Numbers.{code}
use Rattle.closed.specs.Held.{tally, Matched, Unmatched}
use Rattle.closed.specs.HeldLaws.{peel, few}
use Rattle.base.specs.declared.refusal.Refusal.TheVariants.{Ragged, Oversize, LooseCorner, Unclosed}
use Rattle.base.specs.declared.refusal.Refusal.{Refusal}
use Rattle.mesh.specs.Checks.{vertex_limit, face_limit, ragged, oversize, all_below, mesh_check}
use Rattle.mesh.specs.CheckLaws.{passed_sound}
use Rattle.mesh.specs.Corners.{Below, below-greater}

-- ---- what one face adds
distinct-few : (l : List ℕ) → length l ≤ 2 → distinct_corners l ≡ true
unfolding distinct_corners
distinct-few [] h = refl
distinct-few (x ∷ []) h = refl
distinct-few (x ∷ y ∷ []) h = refl
distinct-few (x ∷ y ∷ z ∷ l) h = absurd (omega arith)

pub distinct_step : (ks : List ℕ) (i : ℕ) (t : Bool) {w : Bool} → i + 2 < length ks
    → (t && distinct_corners (drop i ks)) ≡ w
    → (t && not (eqb (get_or ks i 0) (get_or ks (i + 1) 0)) && not (eqb (get_or ks (i + 1) 0) (get_or ks (i + 2) 0))
    && not (eqb (get_or ks (i + 2) 0) (get_or ks i 0)) && distinct_corners (drop (i + 3) ks)) ≡ w
unfolding distinct_corners
distinct_step ks i t h e = simp and_assoc (simp and_assoc at (rw (peel ks i h) at e))

pub distinct_end : (ks : List ℕ) (i : ℕ) (t : Bool) {w : Bool} → length ks ≤ i + 2
    → (t && distinct_corners (drop i ks)) ≡ w → t ≡ w
distinct_end ks i t h e = sym (and-true t) ∙ (rw (distinct-few (drop i ks) (few ks i h)) at e)

-- ---- an edge that occurs is one of which `each` speaks
same_self : (e : Edge) → same e e ≡ true
same_self e = rw (eq-eqb e.tail e.tail refl, eq-eqb e.head e.head refl) refl

pub each_of : (p : Edge → Bool) (es : List Edge) → ((e : Edge) → 1 ≤ occurrences e es → p e ≡ true) → each p es ≡ true
unfolding each occurrences
each_of p [] f = refl
each_of p (d ∷ es) f =
    let a : p d ≡ true = f d (rw (same_self d) (omega arith)) in
    let b : each p es ≡ true = each_of p es (λ e h. f e (omega arith)) in
    rw (a, b) refl

same-is : (d e : Edge) → same d e ≡ true → d ≡ e
same-is d e h =
    let a = (and-eq-true_iff (eqb d.tail e.tail) (eqb d.head e.head)).0 h in
    let x = eqb-true d.tail e.tail a.0 in
    let y = eqb-true d.head e.head a.1 in
    ap (λ (z : ℕ). edge z d.head) x ∙ ap (λ (z : ℕ). edge e.tail z) y

pub each_at : (p : Edge → Bool) (es : List Edge) → each p es ≡ true → (e : Edge) → 1 ≤ occurrences e es → p e ≡ true
unfolding each occurrences
each_at p [] h e n = absurd (omega arith)
each_at p (d ∷ es) h e n = go (same d e) refl n (each_at p es ((and-eq-true_iff (p d) (each p es)).0 h).1 e)
  where
    go : (t : Bool) → same d e ≡ t → 1 ≤ cond t 1 0 + occurrences e es → (1 ≤ occurrences e es → p e ≡ true)
        → p e ≡ true
    go true s k r = sym (ap p (same-is d e s)) ∙ ((and-eq-true_iff (p d) (each p es)).0 h).0
    go false s k r = r (omega arith)

-- ---- an edge and its number
code_same : (x y a b : ℕ) → x < 1048576 → y < 1048576 → a < 1048576 → b < 1048576 → code x y ≡ code a b
    → (x ≡ a) × (y ≡ b)
unfolding code
code_same x y a b hx hy ha hb = go (ltb x y) (ltb a b)
  where
    go : (s t : Bool) → cond s (2 * (x * 1048576 + y)) (2 * (y * 1048576 + x) + 1)
        ≡ cond t (2 * (a * 1048576 + b)) (2 * (b * 1048576 + a) + 1) → (x ≡ a) × (y ≡ b)
    go true true e = let l : x ≤ a = omega arith in let g : a ≤ x = omega arith in (omega arith, omega arith)
    go true false e = absurd (omega arith)
    go false true e = absurd (omega arith)
    go false false e = let l : y ≤ b = omega arith in let g : b ≤ y = omega arith in (omega arith, omega arith)

code_hit : (x y a b : ℕ) → x < 1048576 → y < 1048576 → a < 1048576 → b < 1048576
    → is (code x y) (code a b) ≡ cond (same (edge x y) (edge a b)) 1 0
code_hit x y a b hx hy ha hb = go (same (edge x y) (edge a b)) refl
  where
    go : (t : Bool) → same (edge x y) (edge a b) ≡ t → is (code x y) (code a b) ≡ cond t 1 0
    go true e =
        let w = (and-eq-true_iff (eqb x a) (eqb y b)).0 e in
        is_yes (code x y) (code a b) (ap (λ (z : ℕ). code z y) (eqb-true x a w.0)
        ∙ ap (λ (z : ℕ). code a z) (eqb-true y b w.1))
    go false e =
        is_no (code x y) (code a b) (λ w.
        let i = code_same x y a b hx hy ha hb w in
        true≢false (sym (rw (eq-eqb x a i.0, eq-eqb y b i.1) refl) ∙ e))

below_rest : {v x y z : ℕ} {ks : List ℕ} → Below v (x ∷ y ∷ z ∷ ks) → Below v ks
below_rest s = record { corner = λ k h. s.corner (suc (suc (suc k))) (omega arith) }

pub tally-is : (a b : ℕ) → a < 1048576 → b < 1048576 → (ks : List ℕ) → Below 1048576 ks
    → occurrences (edge a b) (edges ks) ≡ tally (code a b) ks
unfolding occurrences edges tally
tally-is a b ha hb [] s = refl
tally-is a b ha hb (x ∷ []) s = refl
tally-is a b ha hb (x ∷ y ∷ []) s = refl
tally-is a b ha hb (x ∷ y ∷ z ∷ ks) s =
    let hx : x < 1048576 = s.corner 0 (omega arith) in
    let hy : y < 1048576 = s.corner 1 (omega arith) in
    let hz : z < 1048576 = s.corner 2 (omega arith) in
    let p = code_hit x y a b hx hy ha hb in
    let q = code_hit y z a b hy hz ha hb in
    let r = code_hit z x a b hz hx ha hb in
    let t = tally-is a b ha hb ks (below_rest s) in
    omega (arith, p, q, r, t)

-- ---- an edge that occurs has two corners
pub record Proper (v : ℕ) (e : Edge) : Type 0 where
  pub tail : e.tail < v
  pub head : e.head < v
  pub apart : e.tail ≡ e.head → ⊥

pub proper : {v : ℕ} (ks : List ℕ) → distinct_corners ks ≡ true → Below v ks → (e : Edge) → 1 ≤ occurrences e (edges ks)
    → Proper v e
unfolding occurrences edges distinct_corners
proper [] d s e n = absurd (omega arith)
proper (x ∷ []) d s e n = absurd (omega arith)
proper (x ∷ y ∷ []) d s e n = absurd (omega arith)
proper {v} (x ∷ y ∷ z ∷ ks) d s e n =
    go (same (edge x y) e) (same (edge y z) e) (same (edge z x) e) refl refl refl n
    (proper ks ((and-eq-true_iff (not (eqb x y) && not (eqb y z) && not (eqb z x)) (distinct_corners ks)).0 d).1
    (below_rest s) e)
  where
    three : (not (eqb x y) && not (eqb y z) && not (eqb z x)) ≡ true
    three = ((and-eq-true_iff (not (eqb x y) && not (eqb y z) && not (eqb z x)) (distinct_corners ks)).0 d).0

    two : (not (eqb x y) && not (eqb y z)) ≡ true
    two = ((and-eq-true_iff (not (eqb x y) && not (eqb y z)) (not (eqb z x))).0 three).0

    this : (p q : ℕ) → p < v → q < v → not (eqb p q) ≡ true → same (edge p q) e ≡ true → Proper v e
    this p q hp hq w m =
        rw (← same-is (edge p q) e m) (record { tail = hp; head = hq; apart = eqb-false p q (not-true (eqb p q) w) })

    go : (p q r : Bool) → same (edge x y) e ≡ p → same (edge y z) e ≡ q → same (edge z x) e ≡ r
        → 1 ≤ cond p 1 0 + (cond q 1 0 + (cond r 1 0 + occurrences e (edges ks)))
        → (1 ≤ occurrences e (edges ks) → Proper v e) → Proper v e
    go true q r i j k m o = this x y (s.corner 0 (omega arith)) (s.corner 1 (omega arith))
        ((and-eq-true_iff (not (eqb x y)) (not (eqb y z))).0 two).0 i
    go false true r i j k m o = this y z (s.corner 1 (omega arith)) (s.corner 2 (omega arith))
        ((and-eq-true_iff (not (eqb x y)) (not (eqb y z))).0 two).1 j
    go false false true i j k m o = this z x (s.corner 2 (omega arith)) (s.corner 0 (omega arith))
        ((and-eq-true_iff (not (eqb x y) && not (eqb y z)) (not (eqb z x))).0 three).1 k
    go false false false i j k m o = o (omega arith)

-- ---- numbers in pairs are edges in pairs
pub matched_once : {v : ℕ} {ks : List ℕ} → distinct_corners ks ≡ true → v ≤ 1048576 → Below v ks
    → Matched ks (v * 1048576) → each (once (edges ks)) (edges ks) ≡ true
unfolding once code
matched_once {v} {ks} d h s m = each_of (once (edges ks)) (edges ks) (λ e n.
    let g = proper ks d s e n in
    let gt = g.tail in
    let gh = g.head in
    let t = tally-is e.tail e.head (omega arith) (omega arith) ks (below-greater s h) in
    let r = tally-is e.head e.tail (omega arith) (omega arith) ks (below-greater s h) in
    let o = ones e.tail e.head g.apart g.tail g.head (omega arith) in
    rw (
      t,
      r,
      eq-eqb (tally (code e.tail e.head) ks) 1 o.0,
      eq-eqb (tally (code e.head e.tail) ks) 1
          o.1,
    ) refl)
  where
    ones : (a b : ℕ) → (a ≡ b → ⊥) → a < v → b < v → 1 ≤ tally (code a b) ks
        → (tally (code a b) ks ≡ 1) × (tally (code b a) ks ≡ 1)
    ones a b n p q = go (ltb a b) (ltb b a) refl refl
      where
        go : (s t : Bool) → ltb a b ≡ s → ltb b a ≡ t
            → 1 ≤ tally (cond s (2 * (a * 1048576 + b)) (2 * (b * 1048576 + a) + 1)) ks
            → (tally (cond s (2 * (a * 1048576 + b)) (2 * (b * 1048576 + a) + 1)) ks ≡ 1)
            × (tally (cond t (2 * (b * 1048576 + a)) (2 * (a * 1048576 + b) + 1)) ks ≡ 1)
        go true true e f l = let x = ltb-true a b e in let y = ltb-true b a f in absurd (omega arith)
        go true false e f l =
            let x = m.both (a * 1048576 + b) (omega arith) in
            let y = m.single (a * 1048576 + b) (omega arith) in
            (omega arith, omega arith)
        go false true e f l =
            let x = m.both (b * 1048576 + a) (omega arith) in
            let y = m.single (b * 1048576 + a) (omega arith) in
            (omega arith, omega arith)
        go false false e f l = let x = ltb-false a b e in let y = ltb-false b a f in absurd (n (omega arith))

-- ---- an edge whose number is not there once with its partner
-- an edge of the faces that has the number c
record Edged (c : ℕ) (ks : List ℕ) : Type 0 where
  a : ℕ
  b : ℕ
  number : code a b ≡ c
  occurs : 1 ≤ occurrences (edge a b) (edges ks)

edged : (c : ℕ) (ks : List ℕ) → 1 ≤ tally c ks → Edged c ks
unfolding occurrences edges tally
edged c [] n = absurd (omega arith)
edged c (x ∷ []) n = absurd (omega arith)
edged c (x ∷ y ∷ []) n = absurd (omega arith)
edged c (x ∷ y ∷ z ∷ ks) n = go (eqb (code x y) c) (eqb (code y z) c) (eqb (code z x) c) refl refl refl (edged c ks)
  where
    go : (p q r : Bool) → eqb (code x y) c ≡ p → eqb (code y z) c ≡ q → eqb (code z x) c ≡ r
        → (1 ≤ tally c ks → Edged c ks) → Edged c (x ∷ y ∷ z ∷ ks)
    go true q r i j k f =
        record { a = x; b = y; number = eqb-true (code x y) c i; occurs = rw (same_self (edge x y)) (omega arith) }
    go false true r i j k f =
        record { a = y; b = z; number = eqb-true (code y z) c j; occurs = rw (same_self (edge y z)) (omega arith) }
    go false false true i j k f =
        record { a = z; b = x; number = eqb-true (code z x) c k; occurs = rw (same_self (edge z x)) (omega arith) }
    go false false false i j k f =
        let p = is_no (code x y) c (eqb-false (code x y) c i) in
        let q = is_no (code y z) c (eqb-false (code y z) c j) in
        let r = is_no (code z x) c (eqb-false (code z x) c k) in
        let e = f (omega arith) in
        let o = e.occurs in
        record { a = e.a; b = e.b; number = e.number; occurs = omega arith }

pub unmatched_fails : {v : ℕ} {ks : List ℕ} → distinct_corners ks ≡ true → v ≤ 1048576 → Below v ks → Unmatched ks
    → each (once (edges ks)) (edges ks) ≡ false
unfolding once code
unmatched_fails {v} {ks} d h s u = go (each (once (edges ks)) (edges ks)) refl
  where
    -- an edge that occurs has both numbers of its k once
    ones : each (once (edges ks)) (edges ks) ≡ true → (c : ℕ) → 1 ≤ tally c ks
        → (tally (2 * (c / 2)) ks ≡ 1) × (tally (2 * (c / 2) + 1) ks ≡ 1)
    ones w c n =
        let e = edged c ks n in
        let g = proper ks d s (edge e.a e.b) e.occurs in
        let gt = g.tail in
        let gh = g.head in
        let o = (and-eq-true_iff (eqb (occurrences (edge e.a e.b) (edges ks)) 1)
        (eqb (occurrences (edge e.b e.a) (edges ks)) 1)).0
        (each_at (once (edges ks)) (edges ks) w (edge e.a e.b) e.occurs) in
        let p = sym (tally-is e.a e.b (omega arith) (omega arith) ks (below-greater s h))
        ∙ eqb-true (occurrences (edge e.a e.b) (edges ks)) 1 o.0 in
        let q = sym (tally-is e.b e.a (omega arith) (omega arith) ks (below-greater s h))
        ∙ eqb-true (occurrences (edge e.b e.a) (edges ks)) 1 o.1 in
        side e.a e.b g.apart (ltb e.a e.b) (ltb e.b e.a) refl refl e.number p q
      where
        side : (a b : ℕ) → (a ≡ b → ⊥) → (s t : Bool) → ltb a b ≡ s → ltb b a ≡ t
            → cond s (2 * (a * 1048576 + b)) (2 * (b * 1048576 + a) + 1) ≡ c
            → tally (cond s (2 * (a * 1048576 + b)) (2 * (b * 1048576 + a) + 1)) ks ≡ 1
            → tally (cond t (2 * (b * 1048576 + a)) (2 * (a * 1048576 + b) + 1)) ks ≡ 1
            → (tally (2 * (c / 2)) ks ≡ 1) × (tally (2 * (c / 2) + 1) ks ≡ 1)
        side a b n true true i j e p q = let x = ltb-true a b i in let y = ltb-true b a j in absurd (omega arith)
        side a b n true false i j e p q =
            let x : 2 * (c / 2) ≡ 2 * (a * 1048576 + b) = omega arith in
            let y : 2 * (c / 2) + 1 ≡ 2 * (a * 1048576 + b) + 1 = omega arith in
            (ap (λ (z : ℕ). tally z ks) x ∙ p, ap (λ (z : ℕ). tally z ks) y ∙ q)
        side a b n false true i j e p q =
            let x : 2 * (c / 2) ≡ 2 * (b * 1048576 + a) = omega arith in
            let y : 2 * (c / 2) + 1 ≡ 2 * (b * 1048576 + a) + 1 = omega arith in
            (ap (λ (z : ℕ). tally z ks) x ∙ q, ap (λ (z : ℕ). tally z ks) y ∙ p)
        side a b n false false i j e p q =
            let x = ltb-false a b i in let y = ltb-false b a j in absurd (n (omega arith))

    some : each (once (edges ks)) (edges ks) ≡ true → (t : Bool) → ltb 0 (tally (2 * u.k) ks) ≡ t → ⊥
    some w true e =
        let o = ones w (2 * u.k) (ltb-true 0 (tally (2 * u.k) ks) e) in
        let z : 2 * u.k / 2 ≡ u.k = omega arith in
        u.odd (ap (λ (y : ℕ). tally (2 * y) ks) (sym z) ∙ o.0) (ap (λ (y : ℕ). tally (2 * y + 1) ks) (sym z) ∙ o.1)
    some w false e =
        let l = ltb-false 0 (tally (2 * u.k) ks) e in
        let m = u.some in
        let o = ones w (2 * u.k + 1) (omega arith) in
        let z : (2 * u.k + 1) / 2 ≡ u.k = omega arith in
        u.odd (ap (λ (y : ℕ). tally (2 * y) ks) (sym z) ∙ o.0) (ap (λ (y : ℕ). tally (2 * y + 1) ks) (sym z) ∙ o.1)

    go : (t : Bool) → each (once (edges ks)) (edges ks) ≡ t → each (once (edges ks)) (edges ks) ≡ false
    go true w = absurd (some w (ltb 0 (tally (2 * u.k) ks)) refl)
    go false w = w

-- ---- the verdict on the faces
pub passes-not : (ks : List ℕ) → distinct_corners ks ≡ false → false ≡ passes ks
unfolding passes
passes-not ks e = rw e refl

passes-is : (ks : List ℕ) {t : Bool} → distinct_corners ks ≡ true → each (once (edges ks)) (edges ks) ≡ t
    → t ≡ passes ks
unfolding passes
passes-is ks d e = rw (d, e) refl

pub swept : {v : ℕ} {ks : List ℕ} → distinct_corners ks ≡ true → v ≤ 1048576 → Below v ks → (t : Bool)
    → (t ≡ true → Matched ks (v * 1048576)) × (t ≡ false → Unmatched ks) → t ≡ passes ks
swept {ks = ks} d h s true f = passes-is ks d (matched_once d h s (f.0 refl))
swept {ks = ks} d h s false f = passes-is ks d (unmatched_fails d h s (f.1 refl))

-- ---- a mesh that passes the check of 1, 2 and 3
pub passed_below : (n : ℕ) (ks : List ℕ) → mesh_check n ks ≡ passed → Below (n / 3) ks
passed_below n ks h =
    let s = passed_sound {n = n} {corners = ks} h in record { corner = λ k l. let g = s.corner k l in omega arith }

pub passed_limits : (n : ℕ) (ks : List ℕ) → mesh_check n ks ≡ passed → (n / 3 ≤ 1048576) × (length ks ≤ 6291456)
unfolding mesh_check
passed_limits n ks h = go (ragged n ks) (oversize n ks) (all_below (n / 3) ks) refl refl h
  where
    go : (a b d : Bool) → ragged n ks ≡ a → oversize n ks ≡ b
        → cond a (Err Ragged) (cond b (Err Oversize) (cond d passed (Err LooseCorner))) ≡ passed
        → (n / 3 ≤ 1048576) × (length ks ≤ 6291456)
    go false false true ea eb w =
        let r = eqb-true (length ks % 3) 0
        (not-false (eqb (length ks % 3) 0) (neither (not (eqb (n % 3) 0)) (not (eqb (length ks % 3) 0)) ea).1) in
        let o = neither (ltb vertex_limit (n / 3)) (ltb face_limit (length ks / 3)) eb in
        let p = ltb-false vertex_limit (n / 3) o.0 in
        let q = ltb-false face_limit (length ks / 3) o.1 in
        (omega arith, omega arith)
    go false false false ea eb w = let z : ◌≡◌ {A = ℕ} 0 1 = cc in absurd (omega arith)
    go false true d ea eb w = let z : ◌≡◌ {A = ℕ} 0 1 = cc in absurd (omega arith)
    go true b d ea eb w = let z : ◌≡◌ {A = ℕ} 0 1 = cc in absurd (omega arith)

-- ---- the answer
pub closed_is : (n : ℕ) (ks : List ℕ) (t : Bool) → mesh_check n ks ≡ passed → t ≡ passes ks
    → cond t passed (Err Unclosed) ≡ closed_check n ks
unfolding closed_check
closed_is n ks t e d = rw (e, ← d) refl

pub closed_failed : (n : ℕ) (ks : List ℕ) (r : Refusal) → mesh_check n ks ≡ Err r → Err r ≡ closed_check n ks
unfolding closed_check
closed_failed n ks r e = rw e refl
