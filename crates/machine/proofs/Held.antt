-- What a store that holds a mesh and places has in each field, and what a write leaves. Assumes nothing.
use mathlib.Core.Path.{◌≡◌, refl, sym, ap, ◌∙◌}
use mathlib.Core.List.{List, [], ◌∷◌, ◌++◌, map, append_assoc}
use Prim.Native.Nat.{ℕ, zero, suc, ◌+◌, ◌*◌, ◌-◌, ◌≤◌, ◌<◌}
use native.Mathlib.Nat.{mul-suc}
use native.Mathlib.Omega.{arith}
use lib.ListN.{length, take, drop, get_or, set, replicate, length-append, length-map, length-set}
use lib.Seq.{get_or-append-add, drop-append-add, drop_at, take_at, set-set, set-get_or, get_or-set_same}
use lib.Ieee.{Float, nan}
use Rattle.layout.specs.Runs.{write}
use Rattle.layout.specs.Layout.{corners_from, radius_of, verts_of, faces_of, status_of, finished_of, done_of, layer_of}
use Rattle.kernel.specs.declared.kernel.Kernel.{Kernel}
use Rattle.pieces.specs.declared.pieces.Pieces.{Pieces}
use Rattle.machine.specs.Machine.{Mesh, Place, empty, full}
use Rattle.machine.specs.Holding.{place_row, floats7, cells, flat, words_of}
use Rattle.machine.proofs.Sixteen.{sixteen, laid_out_lem}
use Rattle.machine.proofs.Rows.{Width, width3, width4, Each, row_get, row-set, row_write, row-part, flat-length, map-set, map_get_d, each_map, set_append_add, write_append_add, each_set}

-- the radius and the counts
pub radius-held : (m : Mesh) (ss : List Place) (xs : List Float) → radius_of (laid_out_lem m ss xs) ≡ m.radius
unfolding laid_out_lem
radius-held m ss xs = refl

pub verts_held : (wd : ℕ) (m : Mesh) (ss : List Place) (ys : List ℕ) → verts_of (words_of wd m ss ys) ≡ m.verts
unfolding words_of
verts_held wd m ss ys = refl

pub faces_held : (wd : ℕ) (m : Mesh) (ss : List Place) (ys : List ℕ) → faces_of (words_of wd m ss ys) ≡ m.faces
unfolding words_of
faces_held wd m ss ys = refl

-- a form has at least three words per place
at_least : {w : ℕ} → Width w → 3 ≤ w
at_least width3 = omega arith
at_least width4 = omega arith

module _ (wd : ℕ) (fm : Width wd) where
  three-in : 3 ≤ wd
  three-in = at_least fm

  pub cells-length : (m : Mesh) (k : Kernel) (fit : Pieces) (n j t : ℕ) → length (cells m k fit n j t) ≡ 3 * n
  cells-length m k fit zero j t = refl
  cells-length m k fit (suc n) j t = rw mul-suc (omega (arith, cells-length m k fit n (suc j) (t - m.faces)))

  module _ (m : Mesh) where
    pub len_row : (s : Place) → length (place_row wd m s) ≡ wd
    len_row empty = go fm
      where
        go : {w : ℕ} → Width w → length (place_row w m empty) ≡ w
        go width3 = refl
        go width4 = refl
    len_row (full k fit o p l) = go fm
      where
        go : {w : ℕ} → Width w → length (place_row w m (full k fit o p l)) ≡ w
        go width3 = refl
        go width4 = refl

    -- an empty place's words, as a clear leaves them
    pub zeros-row : replicate wd 0 ≡ place_row wd m empty
    zeros-row = go fm
      where
        go : {w : ℕ} → Width w → replicate w 0 ≡ place_row w m empty
        go width3 = refl
        go width4 = refl

    pub len7 : (s : Place) → length (floats7 s) ≡ 7
    len7 empty = refl
    len7 (full k fit o p l) = refl

    pub len48 : (s : Place) → length (sixteen m s) ≡ 48
    len48 empty = refl
    len48 (full k fit o p l) = cells-length m k fit 16 0 p

    pub each_row : (ss : List Place) → Each wd (map (place_row wd m) ss)
    each_row ss = each_map wd (place_row wd m) len_row ss

    pub each7 : (ss : List Place) → Each 7 (map floats7 ss)
    each7 ss = each_map 7 floats7 len7 ss

    pub each48 : (ss : List Place) → Each 48 (map (sixteen m) ss)
    each48 ss = each_map 48 (sixteen m) len48 ss

    module _ (ss : List Place) (hs : length ss ≡ 32) where
      in_map : {B : Type 0} (g : Place → B) (i : ℕ) → i < 32 → i < length (map g ss)
      in_map g i h = rw (length-map, hs) h

      module _ (ys : List ℕ) (i : ℕ) (h : i < 32) where
        abbrev rest-row : List ℕ
        rest-row = m.corners ++ ys

        pub get_word : (j : ℕ) → j < wd
            → get_or (words_of wd m ss ys) (2 + (wd * i + j)) 0 ≡ get_or (place_row wd m (get_or ss i empty)) j 0
        unfolding words_of
        get_word j hj =
            get_or-append-add (m.verts ∷ m.faces ∷ []) (flat (map (place_row wd m) ss) ++ rest-row) (wd * i + j) 0
            ∙ (row_get wd (map (place_row wd m) ss) (each_row ss) rest-row i j 0 (in_map (place_row wd m) i h) hj
            ∙ ap (λ (r : List ℕ). get_or r j 0) (map_get_d (place_row wd m) ss i empty [] (rw hs h)))

        -- its whole row
        pub row-held : take wd (drop (2 + wd * i) (words_of wd m ss ys)) ≡ place_row wd m (get_or ss i empty)
        unfolding words_of
        row-held =
            ap (take wd)
            (drop-append-add (m.verts ∷ m.faces ∷ []) (flat (map (place_row wd m) ss) ++ rest-row) (wd * i))
            ∙ (row-part wd (map (place_row wd m) ss) (each_row ss) rest-row i (in_map (place_row wd m) i h)
            ∙ map_get_d (place_row wd m) ss i empty [] (rw hs h))

        pub status_held : status_of wd (words_of wd m ss ys) i ≡ get_or (place_row wd m (get_or ss i empty)) 0 0
        status_held = let e : 2 + wd * i ≡ 2 + (wd * i + 0) = omega arith in rw e (get_word 0 (omega (arith, three-in)))

        pub finished_held : finished_of wd (words_of wd m ss ys) i ≡ get_or (place_row wd m (get_or ss i empty)) 1 0
        finished_held =
            let e : 3 + wd * i ≡ 2 + (wd * i + 1) = omega arith in rw e (get_word 1 (omega (arith, three-in)))

        pub done_held : done_of wd (words_of wd m ss ys) i ≡ get_or (place_row wd m (get_or ss i empty)) 2 0
        done_held = let e : 4 + wd * i ≡ 2 + (wd * i + 2) = omega arith in rw e (get_word 2 (omega (arith, three-in)))

        -- without a word for the layer it is 0
        pub layer_held : layer_of wd (words_of wd m ss ys) i ≡ get_or (place_row wd m (get_or ss i empty)) 3 0
        layer_held = go fm (words_of wd m ss ys) (get_or ss i empty) (λ h. rw (five wd i) (get_word 3 h))
          where
            five : (w j : ℕ) → 5 + w * j ≡ 2 + (w * j + 3)
            five w j = omega arith

            go : {w : ℕ} → Width w → (ws : List ℕ) (s : Place)
                → (3 < w → get_or ws (5 + w * i) 0 ≡ get_or (place_row w m s) 3 0)
                → layer_of w ws i ≡ get_or (place_row w m s) 3 0
            go width3 ws empty e = refl
            go width3 ws (full k fit o p l) e = refl
            go width4 ws s e = e (omega arith)

        pub write_words : (s : Place)
            → write (words_of wd m ss ys) (2 + wd * i) (place_row wd m s) ≡ words_of wd m (set ss i s) ys
        unfolding words_of
        write_words s =
            write_append_add (m.verts ∷ m.faces ∷ []) (flat (map (place_row wd m) ss) ++ rest-row) (wd * i)
            (place_row wd m s)
            ∙ ap (λ (l : List ℕ). m.verts ∷ m.faces ∷ l)
            (row_write wd (map (place_row wd m) ss) (each_row ss) rest-row i (place_row wd m s)
            (in_map (place_row wd m) i h) (len_row s)
            ∙ ap (λ (r : List (List ℕ)). flat r ++ rest-row) (sym (map-set (place_row wd m) ss i s)))

      module _ (xs : List Float) (i : ℕ) (h : i < 32) where
        abbrev rest48 : List Float
        rest48 = m.coords ++ xs

        abbrev rest7 : List Float
        rest7 = flat (map (sixteen m) ss) ++ rest48

        head48 : length (m.radius ∷ flat (map floats7 ss)) ≡ 225
        head48 = rw (flat-length 7 (map floats7 ss) (each7 ss), length-map, hs) refl

        pub get7 : (j : ℕ) → j < 7
            → get_or (laid_out_lem m ss xs) (1 + (7 * i + j)) nan ≡ get_or (floats7 (get_or ss i empty)) j nan
        unfolding laid_out_lem
        get7 j hj =
            get_or-append-add (m.radius ∷ []) (flat (map floats7 ss) ++ rest7) (7 * i + j) nan
            ∙ (row_get 7 (map floats7 ss) (each7 ss) rest7 i j nan (in_map floats7 i h) hj
            ∙ ap (λ (r : List Float). get_or r j nan) (map_get_d floats7 ss i empty [] (rw hs h)))

        pub get48 : (j : ℕ) → j < 48
            → get_or (laid_out_lem m ss xs) (225 + (48 * i + j)) nan ≡ get_or (sixteen m (get_or ss i empty)) j nan
        unfolding laid_out_lem
        get48 j hj =
            ap (λ (n : ℕ). get_or (m.radius ∷ (flat (map floats7 ss) ++ rest7)) (n + (48 * i + j)) nan) (sym head48)
            ∙ (get_or-append-add (m.radius ∷ flat (map floats7 ss)) rest7 (48 * i + j) nan
            ∙ (row_get 48 (map (sixteen m) ss) (each48 ss) rest48 i j nan (in_map (sixteen m) i h) hj
            ∙ ap (λ (r : List Float). get_or r j nan) (map_get_d (sixteen m) ss i empty [] (rw hs h))))

        -- its whole rows
        pub seven-held : take 7 (drop (1 + 7 * i) (laid_out_lem m ss xs)) ≡ floats7 (get_or ss i empty)
        unfolding laid_out_lem
        seven-held =
            ap (take 7) (drop-append-add (m.radius ∷ []) (flat (map floats7 ss) ++ rest7) (7 * i))
            ∙
            (row-part 7 (map floats7 ss) (each7 ss) rest7 i (in_map floats7 i h)
            ∙ map_get_d floats7 ss i empty [] (rw hs h))

        pub pieces_held : take 48 (drop (225 + 48 * i) (laid_out_lem m ss xs)) ≡ sixteen m (get_or ss i empty)
        unfolding laid_out_lem
        pieces_held =
            ap (λ (n : ℕ). take 48 (drop (n + 48 * i) (m.radius ∷ (flat (map floats7 ss) ++ rest7)))) (sym head48)
            ∙ (ap (take 48) (drop-append-add (m.radius ∷ flat (map floats7 ss)) rest7 (48 * i))
            ∙ (row-part 48 (map (sixteen m) ss) (each48 ss) rest48 i (in_map (sixteen m) i h)
            ∙ map_get_d (sixteen m) ss i empty [] (rw hs h)))

  -- a float run by its rows
  abbrev raw : Float → List (List Float) → List (List Float) → List Float → List Float
  raw r a b rest = r ∷ (flat a ++ (flat b ++ rest))

  module _ (r : Float) (a b : List (List Float)) (ea : Each 7 a) (eb : Each 48 b) (la : length a ≡ 32)
      (lb : length b ≡ 32) (rest : List Float) (i : ℕ) (h : i < 32) where
    head : length (r ∷ flat a) ≡ 225
    head = rw (flat-length 7 a ea, la) refl

    pub raw_write7 : (vs : List Float) → length vs ≡ 7
        → write (raw r a b rest) (1 + 7 * i) vs ≡ raw r (set a i vs) b rest
    raw_write7 vs hv =
        write_append_add (r ∷ []) (flat a ++ (flat b ++ rest)) (7 * i) vs
        ∙ ap (λ (l : List Float). r ∷ l) (row_write 7 a ea (flat b ++ rest) i vs (rw la h) hv)

    pub raw_set7 : (j : ℕ) (v : Float) → j < 7
        → set (raw r a b rest) (1 + (7 * i + j)) v ≡ raw r (set a i (set (get_or a i []) j v)) b rest
    raw_set7 j v hj =
        set_append_add (r ∷ []) (flat a ++ (flat b ++ rest)) (7 * i + j) v
        ∙ ap (λ (l : List Float). r ∷ l) (row-set 7 a ea (flat b ++ rest) i j v (rw la h) hj)

    pub raw_write48 : (vs : List Float) → length vs ≡ 48
        → write (raw r a b rest) (225 + 48 * i) vs ≡ raw r a (set b i vs) rest
    raw_write48 vs hv =
        ap (λ (n : ℕ). write (raw r a b rest) (n + 48 * i) vs) (sym head)
        ∙ (write_append_add (r ∷ flat a) (flat b ++ rest) (48 * i) vs
        ∙ ap (λ (l : List Float). (r ∷ flat a) ++ l) (row_write 48 b eb rest i vs (rw lb h) hv))

    pub raw_set48 : (j : ℕ) (v : Float) → j < 48
        → set (raw r a b rest) (225 + (48 * i + j)) v ≡ raw r a (set b i (set (get_or b i []) j v)) rest
    raw_set48 j v hj =
        ap (λ (n : ℕ). set (raw r a b rest) (n + (48 * i + j)) v) (sym head)
        ∙ (set_append_add (r ∷ flat a) (flat b ++ rest) (48 * i + j) v
        ∙ ap (λ (l : List Float). (r ∷ flat a) ++ l) (row-set 48 b eb rest i j v (rw lb h) hj))

  module _ (m : Mesh) (ss : List Place) (hs : length ss ≡ 32) (xs : List Float) (i : ℕ) (h : i < 32) where
    l7 : length (map floats7 ss) ≡ 32
    l7 = length-map ss floats7 ∙ hs

    l48 : length (map (sixteen m) ss) ≡ 32
    l48 = length-map ss (sixteen m) ∙ hs

    -- place i's floats written anew
    pub write_floats : (s : Place)
        → write (write (laid_out_lem m ss xs) (1 + 7 * i) (floats7 s)) (225 + 48 * i) (sixteen m s)
        ≡ laid_out_lem m (set ss i s) xs
    unfolding laid_out_lem
    write_floats s =
        let a = map floats7 ss in
        let b = map (sixteen m) ss in
        ap (λ (l : List Float). write l (225 + 48 * i) (sixteen m s))
        (raw_write7 m.radius a b (each7 m ss) (each48 m ss) l7 l48 (m.coords ++ xs) i h (floats7 s) (len7 m s))
        ∙
        (raw_write48 m.radius (set a i (floats7 s)) b (each_set 7 a (each7 m ss) i (floats7 s) (len7 m s))
        (each48 m ss) (length-set a i (floats7 s) ∙ l7) l48 (m.coords ++ xs) i h (sixteen m s) (len48 m s)
        ∙ rw (map-set floats7 ss i s, map-set (sixteen m) ss i s) refl)

    -- one float of place i's seven, where the pieces stay
    pub set-seven : (s : Place) (j : ℕ) (v : Float) → j < 7 → set (floats7 (get_or ss i empty)) j v ≡ floats7 s
        → sixteen m s ≡ sixteen m (get_or ss i empty)
        → set (laid_out_lem m ss xs) (1 + (7 * i + j)) v ≡ laid_out_lem m (set ss i s) xs
    unfolding laid_out_lem
    set-seven s j v hj e q =
        let a = map floats7 ss in
        let b = map (sixteen m) ss in
        raw_set7 m.radius a b (each7 m ss) (each48 m ss) l7 l48 (m.coords ++ xs) i h j v hj
        ∙ rw (
          map_get_d floats7 ss i empty [] (rw hs h),
          e,
          map-set floats7 ss i s,
          map-set (sixteen m) ss i s,
          q,
          ← map_get_d (sixteen m) ss i empty [] (rw hs h),
          set-get_or b i [],
        ) refl

    -- one float of its forty-eight, where the seven stay
    pub set_piece : (s : Place) (j : ℕ) (v : Float) → j < 48 → set (sixteen m (get_or ss i empty)) j v ≡ sixteen m s
        → floats7 s ≡ floats7 (get_or ss i empty)
        → set (laid_out_lem m ss xs) (225 + (48 * i + j)) v ≡ laid_out_lem m (set ss i s) xs
    unfolding laid_out_lem
    set_piece s j v hj e q =
        let a = map floats7 ss in
        let b = map (sixteen m) ss in
        raw_set48 m.radius a b (each7 m ss) (each48 m ss) l7 l48 (m.coords ++ xs) i h j v hj
        ∙ rw (
          map_get_d (sixteen m) ss i empty [] (rw hs h),
          e,
          map-set floats7 ss i s,
          map-set (sixteen m) ss i s,
          q,
          ← map_get_d floats7 ss i empty [] (rw hs h),
          set-get_or a i [],
        ) refl

  -- the mesh part
  module _ (m : Mesh) (ss : List Place) (hs : length ss ≡ 32) where
    pub coords_held : (xs : List Float) → length m.coords ≡ 3 * m.verts
        → take (3 * m.verts) (drop 1761 (laid_out_lem m ss xs)) ≡ m.coords
    unfolding laid_out_lem
    coords_held xs e =
        let p = (m.radius ∷ flat (map floats7 ss)) ++ flat (map (sixteen m) ss) in
        let n : length p ≡ 1761
        = rw (
          length-append,
          flat-length 7 (map floats7 ss) (each7 m ss),
          flat-length 48 (map (sixteen m) ss) (each48 m ss),
          length-map,
          length-map,
          hs,
        ) refl in
        ap (λ (l : List Float). take (3 * m.verts) (drop 1761 l))
        (sym (append_assoc (m.radius ∷ flat (map floats7 ss)) (flat (map (sixteen m) ss)) (m.coords ++ xs)))
        ∙ (ap (take (3 * m.verts)) (drop_at p (m.coords ++ xs) 1761 n) ∙ take_at m.coords xs (3 * m.verts) e)

    pub corners_held : (ys : List ℕ) → length m.corners ≡ 3 * m.faces
        → take (3 * m.faces) (drop (corners_from wd) (words_of wd m ss ys)) ≡ m.corners
    unfolding words_of
    corners_held ys e =
        let p = m.verts ∷ m.faces ∷ flat (map (place_row wd m) ss) in
        let n : length p ≡ corners_from wd
        = rw (flat-length wd (map (place_row wd m) ss) (each_row m ss), length-map, hs) (omega arith) in
        ap (take (3 * m.faces)) (drop_at p (m.corners ++ ys) (corners_from wd) n)
        ∙ take_at m.corners ys (3 * m.faces) e

    pub words_long : (ys : List ℕ) → length m.corners ≡ 3 * m.faces
        → corners_from wd + 3 * m.faces ≤ length (words_of wd m ss ys)
    unfolding words_of
    words_long ys e =
        rw (length-append, flat-length wd (map (place_row wd m) ss) (each_row m ss), length-map, hs, length-append)
        (omega arith)

    pub floats_long : (xs : List Float) → length m.coords ≡ 3 * m.verts
        → 1761 + 3 * m.verts ≤ length (laid_out_lem m ss xs)
    unfolding laid_out_lem
    floats_long xs e =
        rw (
          length-append,
          flat-length 7 (map floats7 ss) (each7 m ss),
          length-map,
          hs,
          length-append,
          flat-length 48 (map (sixteen m) ss) (each48 m ss),
          length-map,
          hs,
          length-append,
        ) (omega arith)

  -- two of place i's words, where the first stays
  module _ (m : Mesh) (ss : List Place) (hs : length ss ≡ 32) (ys : List ℕ) (i : ℕ) (h : i < 32) where
    one_word : (a : List (List ℕ)) → Each wd a → length a ≡ 32 → (j : ℕ) (v : ℕ) → j < wd
        → set (m.verts ∷ m.faces ∷ (flat a ++ (m.corners ++ ys))) (2 + (wd * i + j)) v
        ≡ m.verts ∷ m.faces ∷ (flat (set a i (set (get_or a i []) j v)) ++ (m.corners ++ ys))
    one_word a ea la j v hj =
        set_append_add (m.verts ∷ m.faces ∷ []) (flat a ++ (m.corners ++ ys)) (wd * i + j) v
        ∙ ap (λ (l : List ℕ). m.verts ∷ m.faces ∷ l) (row-set wd a ea (m.corners ++ ys) i j v (rw la h) hj)

    pub two_words : (s : Place) (x y : ℕ) → set (set (place_row wd m (get_or ss i empty)) 1 x) 2 y ≡ place_row wd m s
        → set (set (words_of wd m ss ys) (3 + wd * i) x) (4 + wd * i) y ≡ words_of wd m (set ss i s) ys
    unfolding words_of
    two_words s x y e =
        let a = map (place_row wd m) ss in
        let b = set a i (set (get_or a i []) 1 x) in
        let la : length a ≡ 32 = length-map ss (place_row wd m) ∙ hs in
        let g : get_or a i [] ≡ place_row wd m (get_or ss i empty) = map_get_d (place_row wd m) ss i empty [] (rw hs h) in
        let lr : length (set (get_or a i []) 1 x) ≡ wd
        = length-set (get_or a i []) 1 x ∙ (ap length g ∙ len_row m (get_or ss i empty)) in
        let i1 : 3 + wd * i ≡ 2 + (wd * i + 1) = omega arith in
        let i2 : 4 + wd * i ≡ 2 + (wd * i + 2) = omega arith in
        rw (
          i1,
          i2,
          one_word a (each_row m ss) la 1 x (omega (arith, three-in)),
          one_word b (each_set wd a (each_row m ss) i (set (get_or a i []) 1 x) lr)
              (length-set a i (set (get_or a i []) 1 x) ∙ la) 2 y (omega (arith, three-in)),
          get_or-set_same a i (set (get_or a i []) 1 x) [] (rw la h),
          set-set,
          g,
          e,
          map-set (place_row wd m) ss i s,
        ) refl
