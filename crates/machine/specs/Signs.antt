-- 02, L14, one statement: `SignsUnseen`, at the end. "Show too that for a kernel that stays, sigma and its negative
-- give the same density at each point and the same volume." Definitions only.
use Rattle.std.specs.Prelude.{◌≡◌, true, cond, List, [], ◌∷◌, ◌++◌, map, ℕ, zero, suc, ◌+◌, ◌<◌, length, get_or, set, take, drop, Float}
use Rattle.std.specs.Float.{nan}
use Rattle.std.specs.Float.Ieee.{neg}
use Rattle.base.specs.Floats.{abs}
use Rattle.mesh.specs.declared.vectors.V3.{V3}
use Rattle.kernel.specs.declared.kernel.Kernel.{Kernel}
use Rattle.kernel.specs.Kernels.{turned}
use Rattle.pieces.specs.Pieces.{stays}
use Rattle.mass.specs.Calls.{kernel_volume_call}
use Rattle.density.specs.Densitize.{densitized}
use Rattle.layout.specs.Layout.{width, place_limit, piece_limit, piece_from}
use Rattle.store.specs.Calls.{open_step}
use Rattle.readings.specs.Readings.{Reading, density, report, list, track, six}
use Rattle.machine.specs.Machine.{open_row}
use Rattle.machine.specs.Calls.{Call, put, clear, reweigh, advance, squeeze, read, finished, page, lines, Store, store, Heard, hearing}
use Rattle.machine.specs.Events.{leaves}
use Rattle.machine.specs.Beginnings.{leaving}

-- ---- two lists of calls that differ only in signs of sigmas of kernels that stay: they are the same without these

-- a kernel that stays without the sign of its sigma; any other as it is, since its fit looks at the sign
abbrev pub unsigned : Kernel → Kernel
unsigned k =
    record { c = k.c; sigma = cond (stays k.alpha) (abs k.sigma) k.sigma; w = k.w; alpha = k.alpha }

abbrev pub unsigned_call : Call → Call
unsigned_call (put i k l) = put i (unsigned k) l
unsigned_call (clear i) = clear i
unsigned_call (reweigh i v) = reweigh i v
unsigned_call (advance n) = advance n
unsigned_call squeeze = squeeze
unsigned_call (read ls r) = read ls r
unsigned_call (finished ls v) = finished ls v
unsigned_call (page bs) = page bs
unsigned_call (lines bs) = lines bs

-- ---- what they answer and write: the same, but that a list, and the store's lines, write the sigmas as they are: of
-- the lines only how many bytes they are is the same

-- a run that begins with n pieces, "c, sigma, rescaled w, alpha per piece", without the signs of their sigmas
abbrev pub unsigned_run : ℕ → List Float → List Float
unsigned_run zero xs = xs
unsigned_run (suc n) xs = set (take 6 xs) 3 (abs (get_or xs 3 nan)) ++ unsigned_run n (drop 6 xs)

-- an answer with the run: of a list, which "answers the piece count", without those signs; all other floats as they are
abbrev pub unsigned_read : Reading → Heard → Heard
unsigned_read (density v x) o = o
unsigned_read (report v) o = o
unsigned_read (list v out) o =
    record { reply = o.reply; out = unsigned_run (get_or o.reply.counts 0 0) o.out; bytes = o.bytes }
unsigned_read (track v points out) o = o

abbrev pub unsigned_heard : Call → Heard → Heard
unsigned_heard (put i k l) o = o
unsigned_heard (clear i) o = o
unsigned_heard (reweigh i v) o = o
unsigned_heard (advance n) o = o
unsigned_heard squeeze o = o
unsigned_heard (read ls r) o = unsigned_read r o
unsigned_heard (finished ls v) o = o
unsigned_heard (page bs) o = o
unsigned_heard (lines bs) o = record { reply = o.reply; out = o.out; bytes = [] }

abbrev pub said : ℕ → Store → List Call → List Heard
said q s [] = []
said q s (c ∷ cs) = unsigned_heard c (hearing (store q s c)) ∷ said q (store q s c).runs cs

pub record SameSaid (q : ℕ) (s : Store) (cs ds : List Call) : Type 0 where
  pub calls : said q s cs ≡ said q s ds
  -- "volume so far" of each piece of each place, after the lists
  pub volumes : (i j : ℕ) → i < place_limit → j < piece_limit
      → get_or (leaves q s cs).floats (piece_from i j + 2) nan ≡ get_or (leaves q s ds).floats (piece_from i j + 2) nan

-- ---- the statement: no premise looks at a value
pub record SignsUnseen : Type 0 where
  -- "the same density at each point", of any kernel
  pub density : (k : Kernel) (x : List Float) → densitized (six (turned k)) x ≡ densitized (six k) x
  -- "and the same volume", of every mesh, a refused one too, about every centre
  pub volume : (xs : List Float) (ks : List ℕ) (c : V3) (sigma : Float)
      → kernel_volume_call xs ks c (neg sigma) ≡ kernel_volume_call xs ks c sigma
  -- a kernel that stays may be put with the negative of its sigma
  pub put_turned : (i : ℕ) (k : Kernel) (l : ℕ) → stays k.alpha ≡ true
      → unsigned_call (put i (turned k) l) ≡ unsigned_call (put i k l)
  -- and no store sees it: r, xs, ks, fs and ws are those of an accepted opening, cs and ds any such lists of calls
  pub every_list : (r : Float) (xs : List Float) (ks : List ℕ) (fs : List Float) (ws : List ℕ)
      → open_row width xs ks (length fs) (length ws) ≡ 0
      → (cs ds : List Call) → map unsigned_call cs ≡ map unsigned_call ds
      → SameSaid width (leaving (open_step width fs ws r xs ks)) cs ds
