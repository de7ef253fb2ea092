-- Words in which some places are emptied are those of a store that holds only the others; so are the words as a reading
-- of
-- some layers sees them. Assumes nothing.
use mathlib.Core.Path.{◌≡◌, refl, sym, ap, subst, ◌∙◌}
use mathlib.Core.Bool.{Bool, true, false, cond}
use mathlib.Core.Logic.{◌⊎◌, inl, inr}
use mathlib.Core.List.{List, [], ◌∷◌, ◌++◌, map, map-append, append_assoc, append-nil}
use Prim.Native.Nat.{ℕ, zero, suc, ◌+◌, ◌*◌, ◌/◌, ◌%◌, ◌^◌, ◌≤◌, ◌<◌}
use native.Mathlib.Nat.{pow-succ', div-one, div-div-eq-div-mul}
use native.Mathlib.Omega.{arith}
use lib.ListN.{length, take, drop, get_or, set, replicate, length-append, length-drop, length-map, drop_of_length-le, get_or-map}
use lib.Seq.{set-get_or, take-suc, drop-cons, take_all, set_at, get_or_at, length-take-le}
use lib.Dec.{eqb}
use Rattle.base.specs.Loops.{every}
use Rattle.base.specs.LoopLaws.{every_at}
use Rattle.kernel.specs.declared.kernel.Kernel.{Kernel}
use Rattle.pieces.specs.declared.pieces.Pieces.{Pieces}
use Rattle.layout.specs.Runs.{write}
use Rattle.layout.specs.Layout.{layer_of}
use Rattle.layout.specs.Layers.{in_set, hiding, in_layers}
use Rattle.machine.specs.Machine.{Mesh, Provenance, Place, empty, full, among, seen_place, seen_places}
use Rattle.machine.specs.Holding.{place_row, words_of}
use Rattle.machine.specs.Fresh.{kernel_of, kernels_of}
use Rattle.machine.specs.Valid.{Within, Valid}
use Rattle.machine.proofs.Rows.{Width, Layered, layered4, formed}
use Rattle.machine.proofs.Held.{layer_held, write_words, zeros-row}

-- ---- the sets of the store's words are those of the machine
same_set : (l layers : ℕ) → in_set layers l ≡ among l layers
same_set zero layers = ap (λ (n : ℕ). eqb (n % 2) 1) (div-one layers)
same_set (suc l) layers =
    ap (λ (n : ℕ). eqb (n % 2) 1)
    (ap (λ (p : ℕ). layers / p) (pow-succ' 2 l) ∙ sym (div-div-eq-div-mul layers 2 (2 ^ l)))
    ∙ same_set l (layers / 2)

-- ---- with all sixteen every place is seen
all_among : (l : ℕ) → l < 16 → among l 65535 ≡ true
unfolding every
all_among l h = every_at (λ i. among i 65535) 16 l h refl

pub all_seen : (m : Mesh) (ss : List Place) → ((i : ℕ) → Within m (get_or ss i empty)) → seen_places 65535 ss ≡ ss
all_seen m [] w = refl
all_seen m (empty ∷ ss) w = ap (λ (t : List Place). empty ∷ t) (all_seen m ss (λ i. w (suc i)))
all_seen m (full k fit o p l ∷ ss) w =
    rw (all_among l (w zero).layer) (ap (λ (t : List Place). full k fit o p l ∷ t) (all_seen m ss (λ i. w (suc i))))

-- ---- with none no place is seen
none-among : (l : ℕ) → among l 0 ≡ false
none-among zero = refl
none-among (suc l) = none-among l

pub none_seen : (ss : List Place) → kernels_of (seen_places 0 ss) ≡ []
none_seen [] = refl
none_seen (empty ∷ ss) = none_seen ss
none_seen (full k fit o p l ∷ ss) = rw (none-among l) (none_seen ss)

-- ---- some places are emptied: f leaves each as it is or empties it
abbrev pub Emptying : (Place → Place) → Type 0
Emptying f = (s : Place) → (f s ≡ s) ⊎ (f s ≡ empty)

module _ (f : Place → Place) (one : Emptying f) where
  -- what is then in a place was there
  was-there : (s : Place) (k : Kernel) (fit : Pieces) (o : Provenance) (p l : ℕ) → f s ≡ full k fit o p l
      → s ≡ full k fit o p l
  was-there s k fit o p l e = go (one s)
    where
      go : (f s ≡ s) ⊎ (f s ≡ empty) → s ≡ full k fit o p l
      go (inl z) = sym z ∙ e
      go (inr z) = absurd (let y : ◌≡◌ {A = ℕ} 0 1 = ap (λ (s : Place). length (kernel_of s)) (sym z ∙ e) in omega arith)

  still-within : (m : Mesh) (s : Place) → Within m s → Within m (f s)
  still-within m s w = go (one s)
    where
      go : (f s ≡ s) ⊎ (f s ≡ empty) → Within m (f s)
      go (inl z) = subst (Within m) (sym z) w
      go (inr z) = subst (Within m) (sym z) (tt {0})

  none_stays : f empty ≡ empty
  none_stays = go (one empty)
    where
      go : (f empty ≡ empty) ⊎ (f empty ≡ empty) → f empty ≡ empty
      go (inl z) = z
      go (inr z) = z

  pub emptied_at : (ss : List Place) (i : ℕ) → get_or (map f ss) i empty ≡ f (get_or ss i empty)
  emptied_at ss i = ap (get_or (map f ss) i) (sym none_stays) ∙ get_or-map f ss i empty

  pub emptied_there : (ss : List Place) (i : ℕ) (k : Kernel) (fit : Pieces) (o : Provenance) (p l : ℕ)
      → get_or (map f ss) i empty ≡ full k fit o p l → get_or ss i empty ≡ full k fit o p l
  emptied_there ss i k fit o p l e = was-there (get_or ss i empty) k fit o p l (sym (emptied_at ss i) ∙ e)

  pub emptied_valid : (m : Mesh) (ss : List Place) → Valid m ss → Valid m (map f ss)
  emptied_valid m ss v =
      record {
        mesh = v.mesh;
        places = length-map ss f ∙ v.places;
        within = λ i. subst (Within m) (sym (emptied_at ss i)) (still-within m (get_or ss i empty) (v.within i));
      }

  -- ---- the words, by a test that says which places stay
  module _
      (wd : ℕ) (fm : Width wd) (m : Mesh) (ss : List Place) (hs : length ss ≡ 32) (ys : List ℕ) (test : ℕ → Bool)
      (by : (i : ℕ) → i < 32 → cond (test i) (get_or ss i empty) empty ≡ f (get_or ss i empty)) where
    -- the first k places as f leaves them, the others as they are
    abbrev partly : ℕ → List Place
    partly k = map f (take k ss) ++ drop k ss

    split : (k : ℕ) → k < 32 → partly k ≡ map f (take k ss) ++ (get_or ss k empty ∷ drop (suc k) ss)
    split k h = ap (λ (t : List Place). map f (take k ss) ++ t) (drop-cons ss k empty (rw hs h))

    head-long : (k : ℕ) → k ≤ 32 → length (map f (take k ss)) ≡ k
    head-long k h = length-map (take k ss) f ∙ length-take-le k ss (rw hs h)

    long : (k : ℕ) → k < 32 → length (partly k) ≡ 32
    long k h =
        length-append (map f (take k ss)) (drop k ss)
        ∙ rw (head-long k (omega arith), length-drop k ss, hs) (omega arith)

    at : (k : ℕ) → k < 32 → get_or (partly k) k empty ≡ get_or ss k empty
    at k h =
        ap (λ (t : List Place). get_or t k empty) (split k h)
        ∙ get_or_at (map f (take k ss)) (get_or ss k empty) (drop (suc k) ss) empty k (head-long k (omega arith))

    next : (k : ℕ) → k < 32 → set (partly k) k (f (get_or ss k empty)) ≡ partly (suc k)
    next k h =
        let s = get_or ss k empty in
        rw (
          split k h,
          set_at (map f (take k ss)) s (drop (suc k) ss) (f s) k (head-long k (omega arith)),
          take-suc ss k empty (rw hs h),
          map-append f (take k ss) (s ∷ []),
          append_assoc,
        ) refl

    one-hidden : (k : ℕ) → k < 32 → (b : Bool)
        → cond b (words_of wd m (partly k) ys) (write (words_of wd m (partly k) ys) (2 + wd * k) (replicate wd 0))
        ≡ words_of wd m (set (partly k) k (cond b (get_or ss k empty) empty)) ys
    one-hidden k h true =
        ap (λ (t : List Place). words_of wd m t ys)
        (sym (ap (set (partly k) k) (sym (at k h)) ∙ set-get_or (partly k) k empty))
    one-hidden k h false = rw (zeros-row wd fm m) (write_words wd fm m (partly k) (long k h) ys k h empty)

    hidden : (k : ℕ) → k ≤ 32 → hiding wd test (words_of wd m ss ys) k ≡ words_of wd m (partly k) ys
    unfolding hiding
    hidden zero h = refl
    hidden (suc k) h =
        rw (hidden k (omega arith))
        (one-hidden k h (test k)
        ∙ ap (λ (t : List Place). words_of wd m t ys) (ap (set (partly k) k) (by k h) ∙ next k h))

    pub words_emptied : hiding wd test (words_of wd m ss ys) 32 ≡ words_of wd m (map f ss) ys
    words_emptied =
        let t : take 32 ss ≡ ss = take_all 32 ss (rw hs (omega arith)) in
        let d : drop 32 ss ≡ [] = drop_of_length-le ss {i = 32} (rw hs (omega arith)) in
        hidden 32 (omega arith) ∙ rw (t, d, append-nil) refl

-- ---- the places that are seen
module _ (layers : ℕ) where
  pub seen-or-none : Emptying (seen_place layers)
  seen-or-none empty = inl refl
  seen-or-none (full k fit o p l) = go (among l layers)
    where
      go : (b : Bool) → (cond b (full k fit o p l) empty ≡ full k fit o p l) ⊎ (cond b (full k fit o p l) empty ≡ empty)
      go true = inl refl
      go false = inr refl

  seen_by : {wd : ℕ} → Layered wd → (m : Mesh) (s : Place)
      → cond (in_set layers (get_or (place_row wd m s) 3 0)) s empty ≡ seen_place layers s
  seen_by layered4 m empty = go (in_set layers 0)
    where
      go : (b : Bool) → cond b empty empty ≡ empty
      go true = refl
      go false = refl
  seen_by layered4 m (full k fit o p l) = rw (same_set l layers) refl

  module _ (wd : ℕ) (ly : Layered wd) (m : Mesh) (ss : List Place) (hs : length ss ≡ 32) (ys : List ℕ) where
    fm : Width wd
    fm = formed ly

    pub layers_held : in_layers wd layers (words_of wd m ss ys) ≡ words_of wd m (seen_places layers ss) ys
    unfolding in_layers
    layers_held =
        words_emptied (seen_place layers) seen-or-none wd fm m ss hs ys
        (λ i. in_set layers (layer_of wd (words_of wd m ss ys) i))
        (λ i h. rw (layer_held wd fm m ss hs ys i h) (seen_by ly m (get_or ss i empty)))
