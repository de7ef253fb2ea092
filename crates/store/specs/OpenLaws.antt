-- What an opening that is not refused was given. Assumes nothing.
use Rattle.base.specs.Answers.{passed}
use Rattle.std.specs.Prelude.{◌≡◌, refl, Bool, true, false, not, ◌&&◌, ◌||◌, cond, List, ℕ, ◌+◌, ◌/◌, ◌%◌, ◌≤◌, ltb, Err}
use Rattle.std.specs.Prelude.{leb, eqb, length}
use Rattle.std.proofs.Common.{arith, ltb-false, leb-true, eqb-true}
use Rattle.base.specs.declared.refusal.Refusal.TheVariants.{Ragged, Oversize, LooseCorner, ShortStore}
use Rattle.mesh.specs.Checks.{vertex_limit, face_limit, all_below, mesh_check}
use Rattle.layout.specs.Layout.{coords_from, corners_from}
use Rattle.layout.specs.SoundLaws.{both, passed-both}
use Rattle.store.specs.Calls.{open_check}

-- a mesh that passes
pub record Meshes (n : ℕ) (ks : List ℕ) : Type 0 where
  pub coords : n % 3 ≡ 0
  pub corners : length ks % 3 ≡ 0
  pub verts : n / 3 ≤ vertex_limit
  pub faces : length ks / 3 ≤ face_limit
  pub below : all_below (n / 3) ks ≡ true

pub mesh_passes : (n : ℕ) (ks : List ℕ) → mesh_check n ks ≡ passed → Meshes n ks
unfolding mesh_check
mesh_passes n ks h = go (eqb (n % 3) 0) (eqb (length ks % 3) 0) (ltb vertex_limit (n / 3))
    (ltb face_limit (length ks / 3)) (all_below (n / 3) ks) refl refl refl refl refl h
  where
    go : (a b d e f : Bool) → eqb (n % 3) 0 ≡ a → eqb (length ks % 3) 0 ≡ b → ltb vertex_limit (n / 3) ≡ d
        → ltb face_limit (length ks / 3) ≡ e → all_below (n / 3) ks ≡ f
        → cond (not a || not b) (Err Ragged) (cond (d || e) (Err Oversize) (cond f passed (Err LooseCorner)))
        ≡ passed → Meshes n ks
    go true true false false true v w x y z h =
        record {
          coords = eqb-true (n % 3) 0 v;
          corners = eqb-true (length ks % 3) 0 w;
          verts = ltb-false vertex_limit (n / 3) x;
          faces = ltb-false face_limit (length ks / 3) y;
          below = z;
        }
    go false b d e f v w x y z h = absurd (let o : ◌≡◌ {A = ℕ} 0 1 = cc in omega arith)
    go true false d e f v w x y z h = absurd (let o : ◌≡◌ {A = ℕ} 0 1 = cc in omega arith)
    go true true true e f v w x y z h = absurd (let o : ◌≡◌ {A = ℕ} 0 1 = cc in omega arith)
    go true true false true f v w x y z h = absurd (let o : ◌≡◌ {A = ℕ} 0 1 = cc in omega arith)
    go true true false false false v w x y z h = absurd (let o : ◌≡◌ {A = ℕ} 0 1 = cc in omega arith)

-- and runs with room for it
pub record Opens (q n : ℕ) (ks : List ℕ) (a b : ℕ) : Type 0 where
  pub mesh : Meshes n ks
  pub floats : coords_from + n ≤ a
  pub words : corners_from q + length ks ≤ b

pub open_passes : (q n : ℕ) (ks : List ℕ) (a b : ℕ) → open_check q n ks a b ≡ passed → Opens q n ks a b
unfolding open_check
open_passes q n ks a b h =
    let p = passed-both (mesh_check n ks) _ h in
    go (mesh_passes n ks p.0) (leb (coords_from + n) a && leb (corners_from q + length ks) b) refl p.1
  where
    go : Meshes n ks → (t : Bool) → leb (coords_from + n) a && leb (corners_from q + length ks) b ≡ t
        → cond t passed (Err ShortStore) ≡ passed → Opens q n ks a b
    go m true x e =
        let r = both (leb (coords_from + n) a) (leb (corners_from q + length ks) b) x in
        record {
          mesh = m;
          floats = leb-true (coords_from + n) a r.0;
          words = leb-true (corners_from q + length ks) b r.1;
        }
    go m false x e = absurd (let o : ◌≡◌ {A = ℕ} 0 1 = cc in omega arith)
