-- The readings' sums are what `densitize` and `kernel_field_mass` give on the list of the pieces, six floats each.
-- Assumes nothing.
use Rattle.std.specs.Prelude.{◌≡◌, refl, List, [], ◌∷◌, ◌++◌, map, ℕ, zero, suc, ◌+◌, ◌*◌, ◌/◌, ◌%◌, ◌<◌, length}
use Rattle.std.specs.Prelude.{get_or, Float}
use Rattle.std.proofs.Common.{sym, ap, ◌∙◌, append-nil, arith}
use Rattle.std.proofs.lemmas.List.{length-map}
use Rattle.std.specs.Float.{nan}
use Rattle.base.specs.Floats.{◌⊕◌, ◌⊗◌, +0}
use Rattle.base.specs.LoopLaws.{times-same}
use Rattle.base.specs.Answers.{accepted, passed}
use Rattle.mesh.specs.declared.triangles.Triangle.{Triangle}
use Rattle.kernel.specs.Field.{centre_of}
use Rattle.volume.specs.Volume.{kernel_volume}
use Rattle.kernel.specs.declared.kernel.Kernel.{Kernel}
use Rattle.kernel.specs.Kernels.{kernel_at, list_check}
use Rattle.mass.specs.Total.{field_mass}
use Rattle.density.specs.Densitize.{base_at, density_of, densitize_of, densitized}
use Rattle.readings.specs.Readings.{Part, no_kernel, no_part, density_at, raw_mass_lem, rescaled, sixes}

-- a kernel with the three floats of its centre written out, as six floats keep it
abbrev pub as_six : Kernel → Kernel
as_six k =
    record {
      c = get_or k.c 0 nan ∷ get_or k.c 1 nan ∷ get_or k.c 2 nan ∷ [];
      sigma = k.sigma;
      w = k.w;
      alpha = k.alpha;
    }

-- ---- a list of kernels as six floats each
pub sixes-length : (ks : List Kernel) → length (sixes ks) ≡ 6 * length ks
sixes-length [] = refl
sixes-length (k ∷ ks) = omega (arith, sixes-length ks)

pub next_kernel : (a b c d e f : Float) (xs : List Float) (i : ℕ)
    → kernel_at (a ∷ b ∷ c ∷ d ∷ e ∷ f ∷ xs) (suc i) ≡ kernel_at xs i
unfolding kernel_at
next_kernel a b c d e f xs i =
    let n0 : 6 * suc i ≡ suc (suc (suc (suc (suc (suc (6 * i)))))) = omega arith in
    let n1 : 6 * suc i + 1 ≡ suc (suc (suc (suc (suc (suc (6 * i + 1)))))) = omega arith in
    let n2 : 6 * suc i + 2 ≡ suc (suc (suc (suc (suc (suc (6 * i + 2)))))) = omega arith in
    let n3 : 6 * suc i + 3 ≡ suc (suc (suc (suc (suc (suc (6 * i + 3)))))) = omega arith in
    let n4 : 6 * suc i + 4 ≡ suc (suc (suc (suc (suc (suc (6 * i + 4)))))) = omega arith in
    let n5 : 6 * suc i + 5 ≡ suc (suc (suc (suc (suc (suc (6 * i + 5)))))) = omega arith in
    rw (n1, n2, n3, n4, n5, n0) refl

-- kernel i of such a list, whatever follows the list
pub at_laid : (ks : List Kernel) (rest : List Float) (i : ℕ) → i < length ks
    → kernel_at (sixes ks ++ rest) i ≡ as_six (get_or ks i no_kernel)
unfolding kernel_at
at_laid [] rest i h = absurd (omega arith)
at_laid (k ∷ ks) rest zero h = refl
at_laid (k ∷ ks) rest (suc i) h = next_kernel (get_or k.c 0 nan) (get_or k.c 1 nan) (get_or k.c 2 nan) k.sigma
    k.w k.alpha (sixes ks ++ rest) i ∙ at_laid ks rest i (omega arith)

pub at_six : (ks : List Kernel) (i : ℕ) → i < length ks → kernel_at (sixes ks) i ≡ as_six (get_or ks i no_kernel)
at_six ks i h = ap (λ (l : List Float). kernel_at l i) (sym (append-nil (sixes ks))) ∙ at_laid ks [] i h

pub list_sound : (ks : List Kernel) → list_check (sixes ks) ≡ passed
unfolding list_check
list_sound ks =
    let z : length (sixes ks) % 6 ≡ 0 = omega (arith, sixes-length ks) in
    rw z refl

pub count_of : (ks : List Kernel) → length (sixes ks) / 6 ≡ length ks
count_of ks = omega (arith, sixes-length ks)

pub sixes-again : (ks : List Kernel) → sixes (map as_six ks) ≡ sixes ks
sixes-again [] = refl
sixes-again (k ∷ ks) = rw (sixes-again ks) refl

pub six-rescaled : (s : Float) (ks : List Kernel) → map (rescaled s) (map as_six ks) ≡ map as_six (map (rescaled s) ks)
six-rescaled s [] = refl
six-rescaled s (k ∷ ks) = rw (six-rescaled s ks) refl

-- ---- `densitize`

-- it looks at no more of a centre than its three floats
density_six : (k : Kernel) (x : List Float) → density_of (as_six k) x ≡ density_of k x
unfolding density_of base_at
density_six k x = refl

pub laid_density : (ks : List Kernel) (rest x : List Float)
    → densitize_of (kernel_at (sixes ks ++ rest)) (length ks) x ≡ density_at ks x
unfolding density_at densitize_of
laid_density ks rest x =
    times-same (λ i s h. ap (λ (r : Float). s ⊕ r)
    (ap (λ (k : Kernel). density_of k x) (at_laid ks rest i h) ∙ density_six (get_or ks i no_kernel) x)) +0

pub densitized-on : (ks : List Kernel) (x : List Float)
    → densitized (sixes ks) x ≡ accepted (density_at (map as_six ks) x ∷ [])
unfolding densitized
densitized-on ks x =
    let ws = map as_six ks in
    rw (← sixes-again ks, list_sound ws, count_of ws)
    (ap (λ (r : Float). accepted (r ∷ []))
    (ap (λ (l : List Float). densitize_of (kernel_at l) (length ws) x) (sym (append-nil (sixes ws)))
    ∙ laid_density ws [] x))

-- ---- `kernel_field_mass`
abbrev pub sized : (ℕ → Triangle) → ℕ → Kernel → Part
sized t n k = record { kernel = as_six k; volume = kernel_volume t n (centre_of k) k.sigma }

part_at : (t : ℕ → Triangle) (n : ℕ) (ks : List Kernel) (i : ℕ) → i < length ks
    → get_or (map (sized t n) ks) i no_part ≡ sized t n (kernel_at (sixes ks) i)
unfolding kernel_at centre_of
part_at t n [] i h = absurd (omega arith)
part_at t n (k ∷ ks) zero h = refl
part_at t n (k ∷ ks) (suc i) h =
    part_at t n ks i (omega arith) ∙ ap (sized t n)
    (sym (next_kernel (get_or k.c 0 nan) (get_or k.c 1 nan) (get_or k.c 2 nan) k.sigma k.w k.alpha
    (sixes ks) i))

pub mass_on : (t : ℕ → Triangle) (n : ℕ) (ks : List Kernel)
    → raw_mass_lem (map (sized t n) ks) ≡ field_mass t n (sixes ks)
unfolding raw_mass_lem field_mass
mass_on t n ks =
    rw (count_of ks, length-map ks (sized t n))
    (times-same (λ i s h. ap (λ (p : Part). s ⊕ p.kernel.w ⊗ p.volume) (part_at t n ks i h)) +0)
