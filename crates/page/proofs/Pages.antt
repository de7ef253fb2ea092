-- The answers of the page, and what is read in a page that is given: what follows from its length. Assumes nothing.
use Rattle.std.specs.Result.{result_and}
use Rattle.std.specs.Prelude.{◌≡◌, Bool, cond, List, [], ◌∷◌, ℕ, suc, ◌*◌, ◌+◌, ◌≤◌, ◌<◌, Float, Ok, Err}
use Rattle.std.proofs.Math.Path.{refl, ap}
use Rattle.std.proofs.Common.{sym, ◌∙◌, arith}
use Rattle.std.proofs.Math.Bool.{true, false}
use Rattle.std.proofs.Math.Dec.{leb}
use Rattle.std.proofs.Math.ListN.{length, take, drop}
use Rattle.std.proofs.Math.Seq.{take-append_seam, drop-append_seam}
use borrow.Author.Tests.{le-leb, lt-leb}
use Rattle.base.specs.Answers.{counted, refused, Printout, printout, guarded_bytes, Checked, passed}
use Rattle.base.specs.RefusalLaws.{not-zero}
use Rattle.base.specs.declared.refusal.Refusal.TheVariants.{NoFigure, ShortPage}
use Rattle.layout.specs.Runs.{write}
use Rattle.layout.specs.Layout.{place_limit}
use Rattle.layout.specs.SoundLaws.{fine}
use Rattle.readings.specs.Readings.{held_filled}
use Rattle.page.specs.Page.{done_check, Row, page_of, all_printable, page_answer, held_rows, page_step}
use Rattle.page.specs.PageLaws.{AllFair, done_passed, page_length, rows_count, rows_fair, filled_most}
use Rattle.page.specs.ReadBack.{page_lines, page_back, total_back}
use Rattle.page.specs.Posted.{Posted}

module _ (rs : List Row) (bs : List ℕ) where
  module _ (e : all_printable rs ≡ true) (g : AllFair rs) (few : length rs ≤ 32) (n : ℕ)
      (h : n ≡ 65 * length rs + 65) where
    pub short_is : length bs < n → printout (refused ShortPage) bs ≡ page_answer rs bs
    unfolding page_answer
    short_is l =
        let k = page_length rs g few in
        rw (e, lt-leb (length (page_of rs)) (length bs) (omega arith))

    pub written_is : (bs' : List ℕ) → n ≤ length bs → bs' ≡ write bs 0 (page_of rs)
        → printout (counted (n ∷ [])) bs' ≡ page_answer rs bs
    unfolding page_answer
    written_is bs' l r =
        let k = page_length rs g few in
        let m : length (page_of rs) ≡ n = k ∙ sym h in
        rw (e, m, le-leb n (length bs) l, r)

module _ (q : ℕ) (fs : List Float) (ws bs : List ℕ) where
  abbrev got : Printout
  got = page_step q fs ws bs

  abbrev rows : List Row
  rows = held_rows q fs ws place_limit

  abbrev size : ℕ
  size = 65 * suc (held_filled q ws place_limit)

  abbrev wall : List ℕ
  wall = take size got.bytes

  -- what follows where the checks of the store, of the masses and of the room end so
  abbrev so : Checked → Bool → Bool → Printout
  so a b c = guarded_bytes a bs (guarded_bytes
      (result_and (cond b passed (Err NoFigure)) (cond c passed (Err ShortPage))) bs
      (printout (counted (length (page_of rows) ∷ [])) (write bs 0 (page_of rows))))

  -- a page that is not refused passed all three
  record Good : Type 0 where
    sound : done_check q fs ws ≡ passed
    figures : all_printable rows ≡ true
    is : got ≡ printout (counted (length (page_of rows) ∷ [])) (write bs 0 (page_of rows))

  good : got.reply.refusal ≡ 0 → Good
  unfolding page_step page_answer
  good h = go (done_check q fs ws) (all_printable rows) (leb (length (page_of rows)) (length bs)) refl refl refl h
    where
      go : (a : Checked) (b c : Bool) → done_check q fs ws ≡ a → all_printable rows ≡ b
          → leb (length (page_of rows)) (length bs) ≡ c → (so a b c).reply.refusal ≡ 0 → Good
      go (Err e) b c x y z r = not-zero e r
      go (Ok _) false c x y z r = absurd (omega arith)
      go (Ok _) true false x y z r = absurd (omega arith)
      go (Ok _) true true x y z r = record { sound = x; figures = y; is = rw (x, y, z) refl }

  pub posted : got.reply.refusal ≡ 0 → Posted q fs ws bs
  unfolding write
  posted h =
      let g = good h in
      let s = fine q fs ws (done_passed q fs ws g.sound) in
      let f : AllFair rows
      = rows_fair q fs ws (λ i h. (s.places.place i h).pieces) place_limit (omega arith) g.figures in
      let k = rows_count q fs ws place_limit in
      let few : length rows ≤ 32 = rw k (filled_most q ws place_limit) in
      let n : length (page_of rows) ≡ size = page_length rows f few ∙ omega (arith, k) in
      let w : wall ≡ page_of rows = ap (λ (p : Printout). take size p.bytes) g.is
      ∙ rw (← n) (take-append_seam (page_of rows) (drop (length (page_of rows)) bs)) in
      record {
        reply = ap (λ (p : Printout). p.reply) g.is ∙ rw n refl;
        lines = rw (w, ← k) (page_lines rows f few);
        places = rw (w, ← k) (page_back rows f);
        total = rw (w, ← k) (total_back rows f few);
        rest = ap (λ (p : Printout). drop size p.bytes) g.is
            ∙ rw (← n) (drop-append_seam (page_of rows) (drop (length (page_of rows)) bs));
      }
