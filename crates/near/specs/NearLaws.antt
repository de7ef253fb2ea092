-- Laws of faces without a corner in a range, of the spans that tell them and of lists of the others. Assumes nothing.
use Rattle.std.specs.Prelude.{◌≡◌, ℕ, zero, suc, ◌+◌, ◌*◌, ◌/◌, ◌%◌, ◌^◌, ◌<◌, ◌≤◌, Bool, true, false, cond, ◌&&◌, ◌||◌}
use Rattle.std.specs.Prelude.{List, length, ◌==◌, nat_le, nat_lt, slice_index, slice_index_or, slice_set, refl}
use Rattle.std.proofs.Math.Nat.{mul-le-mul_left}
use Rattle.std.proofs.Common.{sym, ap, ◌∙◌, true≢false, add-zero, add-one, arith, length-set, get_or-set_same}
use Rattle.std.proofs.Common.{get_or-set_other, le-leb, le-ltb, leb-true, leb-false, ltb-true, ltb-false, eqb-true}
use Rattle.std.proofs.lemmas.Bool.{eqb-false}
use Rattle.sort.specs.Order.{All}
use Rattle.near.specs.Near.{inside, NoneWithin, Spans, Spanned, behind, Listed}

-- ---- faces without a corner in a range
pub within_none : {ks : List ℕ} {first last from to : ℕ} → to ≤ from → NoneWithin ks first last from to
within_none h = record { none = λ j a b. absurd (omega arith) }

pub within_one : {ks : List ℕ} {first last from to : ℕ} → NoneWithin ks first last from to
    → inside first last (slice_index ks to) ≡ false → NoneWithin ks first last from (to + 1)
within_one {ks} {first} {last} {from} {to} w e = record { none = λ j h g. go j h g (j == to) refl }
  where
    go : (j : ℕ) → from ≤ j → j < to + 1 → (t : Bool) → (j == to) ≡ t → inside first last (slice_index ks j) ≡ false
    go j h g true d = rw (eqb-true j to d) e
    go j h g false d = let f = eqb-false j to d in w.none j h (omega arith)

pub within_part : {ks : List ℕ} {first last from to a b : ℕ} → NoneWithin ks first last from to → from ≤ a → b ≤ to
    → NoneWithin ks first last a b
within_part w h g = record { none = λ j a b. w.none j (omega arith) (omega arith) }

within_both : {ks : List ℕ} {first last from mid to : ℕ} → NoneWithin ks first last from mid
    → NoneWithin ks first last mid to → NoneWithin ks first last from to
within_both {ks} {first} {last} {from} {mid} {to} w v = record { none = λ j a b. go j a b (nat_lt j mid) refl }
  where
    go : (j : ℕ) → from ≤ j → j < to → (t : Bool) → nat_lt j mid ≡ t → inside first last (slice_index ks j) ≡ false
    go j a b true e = w.none j a (ltb-true j mid e)
    go j a b false e = v.none j (ltb-false j mid e) b

within_less : {ks : List ℕ} {first last less from to : ℕ} → NoneWithin ks first last from to → less ≤ last
    → NoneWithin ks first less from to
within_less {ks} {first} {last} {less} w h = record { none = λ j a b. inside-less (slice_index ks j) (w.none j a b) }
  where
    inside-less : (x : ℕ) → inside first last x ≡ false → inside first less x ≡ false
    inside-less x e = go (nat_le first x) refl (nat_le x less) refl
      where
        go : (s : Bool) → nat_le first x ≡ s → (t : Bool) → nat_le x less ≡ t → (s && t) ≡ false
        go false a t b = refl
        go true a false b = refl
        go true a true b =
            let q = leb-true x less b in absurd (true≢false (sym (rw (a, le-leb x last (omega arith)) refl) ∙ e))

pub neither : (a b : Bool) → (a || b) ≡ false → (a ≡ false) × (b ≡ false)
neither true b h = absurd (true≢false h)
neither false b h = (refl, h)

pub inside_no : (first last x : ℕ) → inside first last x ≡ false → first ≤ x → x ≤ last → ⊥
inside_no first last x e h g = true≢false (sym (rw (le-leb first x h, le-leb x last g) refl) ∙ e)

-- ---- a corner in a range, by the difference from its first
pub apart : {first last x r w : ℕ} → first < 2 ^ 32 → r < 2 ^ 32 → w < 2 ^ 32 → (r + first) % 2 ^ 32 ≡ x
    → (w + first) % 2 ^ 32 ≡ last → nat_le r w ≡ false → inside first last x ≡ false
apart {first} {last} {x} {r} {w} f rb wb ex el e = go (nat_le first x) refl (nat_le x last) refl
  where
    far : w < r
    far = leb-false r w e

    go : (s : Bool) → nat_le first x ≡ s → (t : Bool) → nat_le x last ≡ t → (s && t) ≡ false
    go false a t b = refl
    go true a false b = refl
    go true a true b = let p = leb-true first x a in let q = leb-true x last b in absurd (omega (arith, far))

-- ---- the spans of stretches
pub all_one : {such other : ℕ → Type 0} {xs : List ℕ} {from to : ℕ} → All such xs from to
    → ((x : ℕ) → such x → other x) → other (slice_index xs to) → All other xs from (to + 1)
all_one {such} {other} {xs} {from} {to} a f w = record { at = λ j h g. go j h g (j == to) refl }
  where
    go : (j : ℕ) → from ≤ j → j < to + 1 → (t : Bool) → (j == to) ≡ t → other (slice_index xs j)
    go j h g true e = rw (eqb-true j to e) w
    go j h g false e = let d = eqb-false j to e in f (slice_index xs j) (a.at j h (omega arith))

pub spans_all : {xs : List ℕ} {from to least greatest : ℕ} → least < 1048576 → All (λ (x : ℕ). least ≤ x) xs from to
    → All (λ (x : ℕ). x ≤ greatest) xs from to → All (Spans (greatest / 16 * 65536 + least / 16)) xs from to
spans_all {xs} h l g =
    record { at = λ j a b. let p = l.at j a b in let q = g.at j a b in (omega arith, omega arith) }

pub misses_span : (span first last x : ℕ)
    → (nat_lt (span / 65536) (first / 16) || nat_lt (last / 16) (span % 65536)) ≡ true
    → Spans span x → inside first last x ≡ false
misses_span span first last x t s = go (nat_le first x) refl (nat_le x last) refl
  where
    go : (p : Bool) → nat_le first x ≡ p → (q : Bool) → nat_le x last ≡ q → (p && q) ≡ false
    go false a q b = refl
    go true a false b = refl
    go true a true b =
        let f = leb-true first x a in
        let l = leb-true x last b in
        let s0 = s.0 in
        let s1 = s.1 in
        absurd (true≢false (sym t ∙ rw (
          le-ltb (span / 65536) (first / 16) (omega arith),
          le-ltb (last / 16) (span % 65536) (omega arith),
        ) refl))

pub spanned_none : {ks spans : List ℕ} → length spans ≡ 2049 → Spanned ks spans 0
spanned_none e = record { long = e; at = λ j h. absurd (omega arith) }

-- the next stretch, from corner i to corner n
pub spanned_more : {ks spans : List ℕ} (span : ℕ) {i n : ℕ} → Spanned ks spans i → i % 3072 ≡ 0
    → i / 3072 < length spans → n ≤ i + 3072 → All (Spans span) ks i n → Spanned ks (slice_set spans (i / 3072) span) n
spanned_more {ks} {spans} span {i} {n} s z h l a =
    record { long = length-set spans (i / 3072) span ∙ s.long; at = λ j g. go j g (nat_lt j i) refl }
  where
    go : (j : ℕ) → j < n → (t : Bool) → nat_lt j i ≡ t
        → Spans (slice_index (slice_set spans (i / 3072) span) (j / 3072)) (slice_index ks j)
    go j g true e =
        let f = ltb-true j i e in
        rw (get_or-set_other spans (i / 3072) (j / 3072) span 0 (λ d. omega arith)) (s.at j f)
    go j g false e =
        let f = ltb-false j i e in
        let d : j / 3072 ≡ i / 3072 = omega arith in
        rw (d, get_or-set_same spans (i / 3072) span 0 h) (a.at j f g)

-- up to 256 faces of a stretch, no corner of which is in a range
pub spanned_missed : {ks spans : List ℕ} {first last : ℕ} (from faces : ℕ) → Spanned ks spans (length ks)
    → from % 256 ≡ 0 → faces ≤ 256 → 3 * (from + faces) ≤ length ks
    → ((x : ℕ) → Spans (slice_index spans (from / 1024)) x → inside first last x ≡ false)
    → NoneWithin ks first last (3 * from) (3 * (from + faces))
spanned_missed {ks} {spans} from faces s z h l f =
    record {
      none = λ j a b.
          let d : j / 3072 ≡ from / 1024 = omega arith in
          f (slice_index ks j) (rw (← d) (s.at j (omega arith)));
    }

-- ---- faces that are listed
pub listed-none : {ks ps : List ℕ} {first last size from : ℕ} → Listed ks first last size from from ps 0
unfolding behind
listed-none =
    record {
      rising = λ q h. absurd (omega arith);
      short = λ q h. absurd (omega arith);
      between = λ q h. absurd (omega arith);
      stops = omega arith;
      rest = within_none (omega arith);
    }

-- so many faces farther, of which none is near
pub listed-on : {ks ps : List ℕ} {first last size from to next m : ℕ} → Listed ks first last size from to ps m
    → to ≤ next → NoneWithin ks first last (3 * to) (3 * next) → Listed ks first last size from next ps m
listed-on l h w =
    record {
      rising = l.rising;
      short = λ q g. let s = l.short q g in omega arith;
      between = l.between;
      stops = let s = l.stops in omega arith;
      rest = within_both l.rest w;
    }

-- where the list begins, and the face after a block
pub behind-none : (size from : ℕ) (ps : List ℕ) → behind size from ps 0 ≡ from
unfolding behind
behind-none size from ps = refl

pub behind-one : (size from : ℕ) (ps : List ℕ) (m : ℕ) → behind size from ps (m + 1) ≡ slice_index ps m + size
unfolding behind
behind-one size from ps m = rw (add-one m) refl

behind-set : (size from v m : ℕ) (ps : List ℕ) (q : ℕ) → q ≤ m
    → behind size from (slice_set ps m v) q ≡ behind size from ps q
unfolding behind
behind-set size from v m ps zero h = refl
behind-set size from v m ps (suc q) h = ap (λ (z : ℕ). z + size) (get_or-set_other ps m q v 0 (λ e. omega arith))

-- a block that is put on the list, and counts where it is near
pub listed-one : {ks ps : List ℕ} {first last size from to m : ℕ} → Listed ks first last size from to ps m
    → m < length ps → (t : Bool) → (t ≡ false → NoneWithin ks first last (3 * to) (3 * (to + size)))
    → Listed ks first last size from (to + size) (slice_set ps m to) (m + cond t 1 0)
unfolding behind
listed-one {ks} {ps} {first} {last} {size} {from} {to} {m} l h = go
  where
    b : (q : ℕ) → q ≤ m → behind size from (slice_set ps m to) q ≡ behind size from ps q
    b = behind-set size from to m ps

    p : (q : ℕ) → q < m → slice_index (slice_set ps m to) q ≡ slice_index ps q
    p q g = get_or-set_other ps m q to 0 (λ e. omega arith)

    go : (t : Bool) → (t ≡ false → NoneWithin ks first last (3 * to) (3 * (to + size)))
        → Listed ks first last size from (to + size) (slice_set ps m to) (m + cond t 1 0)
    go false w =
        rw (add-zero m)
        (record {
          rising = λ q g. rw (b q (omega arith), p q g) (l.rising q g);
          short = λ q g. rw (p q g) (let s = l.short q g in omega arith);
          between = λ q g. rw (b q (omega arith), p q g) (l.between q g);
          stops = rw (b m (omega arith)) (let s = l.stops in omega arith);
          rest = rw (b m (omega arith)) (within_both l.rest (w refl));
        })
    go true w =
        rw (add-one m)
        (record {
          rising = λ q g. (at q g (q == m) refl).0;
          short = λ q g. (at q g (q == m) refl).1;
          between = λ q g. (at q g (q == m) refl).2;
          stops = rw here (omega arith);
          rest = rw here (within_none (omega arith));
        })
      where
        here : slice_index_or (slice_set ps m to) m 0 ≡ to
        here = get_or-set_same ps m to 0 h

        at : (q : ℕ) → q < suc m → (u : Bool) → (q == m) ≡ u
            → (behind size from (slice_set ps m to) q ≤ slice_index (slice_set ps m to) q)
            × (slice_index (slice_set ps m to) q + size ≤ to + size)
            × NoneWithin ks first last (3 * behind size from (slice_set ps m to) q)
            (3 * slice_index (slice_set ps m to) q)
        at q g true e = rw (eqb-true q m e, b m (omega arith), here) (l.stops, omega arith, l.rest)
        at q g false e =
            let d = eqb-false q m e in
            let k : q < m = omega arith in
            let s = l.short q k in
            rw (b q (omega arith), p q k) (l.rising q k, omega arith, l.between q k)

-- a list that follows another, of wider blocks: to the next of these, and past the last
module _ {ks bs ps : List ℕ} {first last wide size from to m n : ℕ} (i : ℕ)
    (l : Listed ks first last wide from to bs m) (p : Listed ks first last size from (behind wide from bs i) ps n) where
  pub listed_next : i < m → Listed ks first last size from (slice_index bs i) ps n
  listed_next h = listed-on p (l.rising i h) (l.between i h)

  pub listed-past : i ≡ m → Listed ks first last size from to ps n
  listed-past e =
      let d = ap (behind wide from bs) e in
      let s = l.stops in
      listed-on p (omega arith) (within_part l.rest (omega arith) (omega arith))

-- what is out of a range is out of a lesser one
pub listed-less : {ks ps : List ℕ} {first last less size from to m : ℕ} → Listed ks first last size from to ps m
    → less ≤ last → Listed ks first less size from to ps m
listed-less l h =
    record {
      rising = l.rising;
      short = l.short;
      between = λ q g. within_less (l.between q g) h;
      stops = l.stops;
      rest = within_less l.rest h;
    }

-- ---- a block of `size` faces, of so many
pub block_within : (size blocks k : ℕ) → k < blocks → size * k + size ≤ size * blocks
block_within size blocks k h = omega (arith, mul-le-mul_left size h)
