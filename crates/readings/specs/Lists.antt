-- The floats that a list writes. Assumes nothing.
use Rattle.std.specs.Prelude.{◌≡◌, refl, List, [], ◌∷◌, ◌++◌, map, ℕ, zero, suc, ◌+◌, ◌*◌, ◌-◌, ◌≤◌, ◌<◌, length, Float}
use Rattle.std.proofs.Common.{sym, ap, ◌∙◌, append_assoc, add-one, arith, length-append}
use Rattle.std.proofs.Math.Decide.{dec_lt}
use Rattle.std.proofs.lemmas.List.Edits.{sets}
use Rattle.layout.specs.Runs.{write}
use Rattle.layout.specs.RunLaws.{sets-write, length-write, write-more, write-none}
use Rattle.layout.specs.Layout.{status_of}
use Rattle.readings.specs.Readings.{Part, bare, rescaled, six, sixes, held_part, held_at, held_all_lem}
use Rattle.readings.specs.Counts.{held_pieces}

-- six floats for each part, by a scale
abbrev pub rescaled_sixes : Float → List Part → List Float
rescaled_sixes s ps = sixes (map (rescaled s) (map bare ps))

rescaled_append : (s : Float) (ps qs : List Part)
    → rescaled_sixes s (ps ++ qs) ≡ rescaled_sixes s ps ++ rescaled_sixes s qs
rescaled_append s [] qs = refl
rescaled_append s (p ∷ ps) qs = ap (λ (l : List Float). six (rescaled s (bare p)) ++ l) (rescaled_append s ps qs)
    ∙ sym (append_assoc (six (rescaled s (bare p))) (rescaled_sixes s ps) (rescaled_sixes s qs))

pub rescaled-length : (s : Float) (ps : List Part) → length (rescaled_sixes s ps) ≡ 6 * length ps
rescaled-length s [] = refl
rescaled-length s (p ∷ ps) = omega (arith, rescaled-length s ps)

pub at_length : (fs : List Float) (i n : ℕ) → length (held_at fs i n) ≡ n
at_length fs i zero = refl
at_length fs i (suc n) = length-append (held_at fs i n) (held_part fs i n ∷ []) ∙ omega (arith, at_length fs i n)

pub all_length : (q : ℕ) (fs : List Float) (ws : List ℕ) (k : ℕ) → length (held_all_lem q fs ws k) ≡ held_pieces q ws k
unfolding held_all_lem held_pieces
all_length q fs ws zero = refl
all_length q fs ws (suc k) = length-append (held_all_lem q fs ws k) (held_at fs k (status_of q ws k - 1))
    ∙ omega (arith, all_length q fs ws k, at_length fs k (status_of q ws k - 1))

-- ---- the run as far as it is written: vs from `at` on
pub record Listed (l : List Float) (at : ℕ) (vs f : List Float) : Type 0 where
  pub long : length f ≡ length l
  pub same : f ≡ write l at vs

pub none_listed : (l : List Float) (at : ℕ) → Listed l at [] l
none_listed l at = record { long = refl; same = sym (write-none l at) }

list_more : (l : List Float) (at : ℕ) (vs us f f' : List Float) (to : ℕ) → Listed l at vs f → to ≡ at + length vs
    → to + length us ≤ length l → f' ≡ write f to us → Listed l at (vs ++ us) f'
list_more l at vs us f f' to g e b r =
    record {
      long = ap length r ∙ (length-write f to us (omega (arith, g.long)) ∙ g.long);
      same = r ∙ (ap (λ (t : List Float). write t to us) g.same
          ∙ (ap (λ (n : ℕ). write (write l at vs) n us) e ∙ write-more l at vs us (omega arith)));
    }

-- one piece more of place i
pub piece_listed : (l : List Float) (at : ℕ) (s : Float) (fs : List Float) (i j : ℕ) (f f' : List Float)
    → Listed l at (rescaled_sixes s (held_at fs i j)) f → at + 6 * j + 6 ≤ length l
    → f' ≡ sets f (at + 6 * j) (six (rescaled s (bare (held_part fs i j))))
    → Listed l at (rescaled_sixes s (held_at fs i (j + 1))) f'
piece_listed l at s fs i j f f' g b r =
    let n = rescaled-length s (held_at fs i j) in
    let m = at_length fs i j in
    let e : rescaled_sixes s (held_at fs i (j + 1))
    ≡ rescaled_sixes s (held_at fs i j) ++ rescaled_sixes s (held_part fs i j ∷ []) = ap
    (λ (t : ℕ). rescaled_sixes s (held_at fs i t)) (add-one j)
    ∙ rescaled_append s (held_at fs i j) (held_part fs i j ∷ []) in
    let k = six (rescaled s (bare (held_part fs i j))) in
    rw e (list_more l at (rescaled_sixes s (held_at fs i j)) k f f' (at + 6 * j) g (omega arith) (omega arith)
    (r ∙ sets-write k f (at + 6 * j) (omega (arith, g.long))))

-- one place more
pub place_listed : (l : List Float) (s : Float) (q : ℕ) (fs : List Float) (ws : List ℕ) (k : ℕ) (f f' : List Float)
    → Listed l 0 (rescaled_sixes s (held_all_lem q fs ws k)) f
    → 6 * held_pieces q ws (k + 1) ≤ length l
    → f' ≡ write f (6 * held_pieces q ws k) (rescaled_sixes s (held_at fs k (status_of q ws k - 1)))
    → Listed l 0 (rescaled_sixes s (held_all_lem q fs ws (k + 1))) f'
unfolding held_all_lem held_pieces
place_listed l s q fs ws k f f' g b r =
    let n = rescaled-length s (held_all_lem q fs ws k) in
    let m = all_length q fs ws k in
    let x = rescaled-length s (held_at fs k (status_of q ws k - 1)) in
    let y = at_length fs k (status_of q ws k - 1) in
    let z : held_pieces q ws (k + 1) ≡ held_pieces q ws k + (status_of q ws k - 1) =
    ap (held_pieces q ws) (add-one k) in
    let e : rescaled_sixes s (held_all_lem q fs ws (k + 1))
    ≡ rescaled_sixes s (held_all_lem q fs ws k)
    ++ rescaled_sixes s (held_at fs k (status_of q ws k - 1)) =
    ap (λ (t : ℕ). rescaled_sixes s (held_all_lem q fs ws t))
    (add-one k) ∙ rescaled_append s (held_all_lem q fs ws k) (held_at fs k (status_of q ws k - 1)) in
    rw e (list_more l 0 (rescaled_sixes s (held_all_lem q fs ws k))
    (rescaled_sixes s (held_at fs k (status_of q ws k - 1))) f f' (6 * held_pieces q ws k) g (omega arith)
    (omega arith) r)

pub count_mono : (q : ℕ) (ws : List ℕ) (k n : ℕ) → k ≤ n → held_pieces q ws k ≤ held_pieces q ws n
unfolding held_pieces
count_mono q ws k zero h = let e : k ≡ 0 = omega arith in rw e (omega arith)
count_mono q ws k (suc n) h = go (dec_lt k (suc n)) (λ (l : k ≤ n). count_mono q ws k n l)
  where
    go : Dec (k < suc n) → (k ≤ n → held_pieces q ws k ≤ held_pieces q ws n)
        → held_pieces q ws k ≤ held_pieces q ws n + (status_of q ws n - 1)
    go (yes l) ih = omega (arith, ih (omega arith))
    go (no l) ih = let e : k ≡ suc n = omega arith in rw e (omega arith)

pub set6_write : (l : List Float) (i : ℕ) (a b c d e f : Float) → i + 6 ≤ length l
    → sets l i (a ∷ b ∷ c ∷ d ∷ e ∷ f ∷ []) ≡ write l i (a ∷ b ∷ c ∷ d ∷ e ∷ f ∷ [])
set6_write l i a b c d e f h = sets-write (a ∷ b ∷ c ∷ d ∷ e ∷ f ∷ []) l i h

pub count_next : (q : ℕ) (ws : List ℕ) (k : ℕ) → held_pieces q ws (k + 1) ≡ held_pieces q ws k + (status_of q ws k - 1)
unfolding held_pieces
count_next q ws k = ap (held_pieces q ws) (add-one k)

-- ---- the pieces of all places, a place more
pub ruleset lists = (place_listed, count_mono, count_next)
