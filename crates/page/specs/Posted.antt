-- 02, L8, of any runs at all: what is read in a page that is given, and that a refused one stays as it was.
-- Assumes nothing.
use Rattle.std.specs.Result.{result_and}
use Rattle.std.specs.Prelude.{◌≡◌, Bool, cond, List, [], ◌∷◌, map, ℕ, suc, ◌*◌, Float, Ok, Err}
use Rattle.std.proofs.Math.Path.{refl}
use Rattle.std.proofs.Math.Bool.{true, false}
use Rattle.std.proofs.Math.Dec.{leb}
use Rattle.std.proofs.Math.ListN.{length, take, drop}
use Rattle.base.specs.Answers.{counted, Printout, printout, guarded_bytes, Checked, passed}
use Rattle.base.specs.declared.refusal.Refusal.TheVariants.{NoFigure, ShortPage}
use Rattle.layout.specs.Runs.{write}
use Rattle.layout.specs.Layout.{place_limit}
use Rattle.readings.specs.Readings.{held_filled}
use Rattle.page.specs.Page.{done_check, Row, total_of, page_of, all_printable, page_answer, held_rows, page_step}
use Rattle.page.specs.ReadBack.{Lines, exactly, read_mass, read_lines, shown}

module _ (q : ℕ) (fs : List Float) (ws bs : List ℕ) where
  -- the call, the filled places, how many bytes their page has, and those bytes
  abbrev pub got : Printout
  got = page_step q fs ws bs

  abbrev pub rows : List Row
  rows = held_rows q fs ws place_limit

  abbrev pub size : ℕ
  size = 65 * suc (held_filled q ws place_limit)

  abbrev pub wall : List ℕ
  wall = take size got.bytes

  pub record Posted : Type 0 where
    -- "it answers its byte count"
    pub reply : got.reply ≡ counted (size ∷ [])
    -- "Every line has 64 characters and a newline": one per filled place, and the last
    pub lines : Lines wall (suc (held_filled q ws place_limit))
    -- each place's number, pieces and rounded mass, as they are read
    pub places : read_lines (held_filled q ws place_limit) wall ≡ map shown rows
    -- "the sum of the printed masses"
    pub total : read_mass (drop (65 * held_filled q ws place_limit) wall) ≡ exactly (total_of rows)
    -- "bytes past that untouched"
    pub rest : drop size got.bytes ≡ drop size bs

  -- what follows where the checks of the store, of the masses and of the room end so
  abbrev so : Checked → Bool → Bool → Printout
  so a b c = guarded_bytes a bs (guarded_bytes
      (result_and (cond b passed (Err NoFigure)) (cond c passed (Err ShortPage))) bs
      (printout (counted (length (page_of rows) ∷ [])) (write bs 0 (page_of rows))))

  -- "a refused call changes nothing"
  pub unchanged : (got.reply.refusal ≡ 0 → ⊥) → got.bytes ≡ bs
  unfolding page_step page_answer
  unchanged h = go (done_check q fs ws) (all_printable rows) (leb (length (page_of rows)) (length bs)) h
    where
      go : (a : Checked) (b c : Bool) → ((so a b c).reply.refusal ≡ 0 → ⊥) → (so a b c).bytes ≡ bs
      go (Err e) b c n = refl
      go (Ok _) false c n = refl
      go (Ok _) true false n = refl
      go (Ok _) true true n = absurd (n refl)
