-- 02, L10: a text is refused by the row that the machine's side says, and else leaves what its opening and puts, call
-- by call, leave: the runs of the machine that gets them. Assumes nothing.
use Rattle.std.specs.Result.{result_and}
use Rattle.std.specs.Prelude.{Ok, Err}
use mathlib.Core.Path.{◌≡◌, refl, sym, ap, ◌∙◌}
use mathlib.Core.Bool.{Bool, true, false, not, ◌&&◌, cond}
use mathlib.Core.List.{List, [], ◌∷◌, map}
use Prim.Native.Nat.{ℕ, ◌+◌, ◌<◌}
use native.Mathlib.Decide.{dec_lt}
use native.Mathlib.Omega.{arith}
use lib.Dec.{ltb, leb}
use lib.ListN.{length}
use lib.Ieee.{Float}
use borrow.Author.Tests.{lt-ltb, le-ltb}
use Rattle.base.specs.Answers.{counted, done, Checked, passed}
use Rattle.base.specs.declared.refusal.Refusal.TheVariants.{NoPlace, NoLayer}
use Rattle.layout.specs.Layout.{place_limit, layer_limit}
use Rattle.layout.specs.After.{After, after, guarded}
use Rattle.store.specs.Calls.{open_step}
use Rattle.text.specs.Text.{Text, lost, left}
use Rattle.text.specs.Form.{Vals}
use Rattle.script.specs.Lines.{put_line}
use Rattle.reader.specs.ReadOf.{place_in, layer_in, Script, read_of, put_on, puts_on, form_check, places_in, layers_in, puts_check, script_check, load_step}
use Rattle.machine.specs.Machine.{Machine, left_sum, opened, open_row}
use Rattle.machine.specs.Holding.{excess_f, excess_w}
use Rattle.machine.specs.Calls.{machine, store}
use Rattle.machine.specs.Events.{leaves, after_all}
use Rattle.machine.specs.Demands.{refused_by}
use Rattle.machine.specs.Beginnings.{leaving, put_call, scripted, any_row, lines_row}
use Rattle.machine.specs.Valid.{Valid}
use Rattle.machine.proofs.Rows.{Layered, formed}
use Rattle.machine.proofs.Refused.{not-below, Row, row}
use Rattle.machine.proofs.Claim.{kept}
use Rattle.machine.proofs.Adopting.{Holds, after_calls}
use Rattle.machine.proofs.Opened.{holds}

-- ---- which row refuses

-- two checks one after the other
row-then : {n k : ℕ} {c d : Checked} → Row n c → Row k d → Row (cond (ltb 0 n) n k) (result_and c d)
row-then {n} {k} {c} {d} r s = go (dec_lt 0 n)
  where
    first : 0 < n → (e : Checked) → c ≡ e → (fs : List Float) (ws : List ℕ) (good : After)
        → guarded (result_and e d) fs ws good ≡ after (refused_by n) fs ws
    first h (Ok _) z fs ws good =
        let x : after done fs ws ≡ after (refused_by n) fs ws
        = ap (λ (e : Checked). guarded e fs ws (after done fs ws)) (sym z) ∙ r.some h fs ws (after done fs ws) in
        absurd (let y : ◌≡◌ {A = ℕ} 0 n = ap (λ (a : After). a.reply.refusal) x in omega arith)
    first h (Err e) z fs ws good =
        ap (λ (x : Checked). guarded x fs ws good) (sym z) ∙ r.some h fs ws good

    go : Dec (0 < n) → Row (cond (ltb 0 n) n k) (result_and c d)
    go (yes h) =
        rw (lt-ltb 0 n h)
        (record { none = λ e. absurd (omega arith); some = λ g fs ws good. first h c refl fs ws good })
    go (no h) = rw (le-ltb 0 n (omega arith), r.none (omega arith)) s

-- the row that applies to any line, beside the test that each line passes
any_row_lem : (test good : Vals put_line → Bool) (all : List (Vals put_line) → Bool)
    → ((v : Vals put_line) → test v ≡ not (good v))
    → all [] ≡ true → ((v : Vals put_line) (vs : List (Vals put_line)) → all (v ∷ vs) ≡ good v && all vs)
    → (n : ℕ) (vs : List (Vals put_line)) (other : ℕ) → any_row test n vs other ≡ cond (all vs) other n
any_row_lem test good all t none more n [] other = rw none refl
any_row_lem test good all t none more n (v ∷ vs) other =
    rw (t v, more v vs, any_row_lem test good all t none more n vs other) (go (good v) (all vs))
  where
    go : (a b : Bool) → cond (not a) n (cond b other n) ≡ cond (a && b) other n
    go true b = refl
    go false b = refl

abbrev pub puts_row : List (Vals put_line) → ℕ
puts_row vs = any_row (λ v. leb place_limit (place_in v)) 6 vs (any_row (λ v. ltb 15 (layer_in v)) 16 vs 0)

pub puts_tests : (vs : List (Vals put_line)) → puts_row vs ≡ cond (places_in vs) (cond (layers_in vs) 0 16) 6
unfolding places_in layers_in
puts_tests vs =
    any_row_lem (λ v. leb place_limit (place_in v)) (λ v. ltb (place_in v) place_limit) places_in
    (λ v. not-below place_limit (place_in v)) refl (λ v vs. refl) 6 vs (any_row (λ v. ltb 15 (layer_in v)) 16 vs 0)
    ∙ ap (λ (n : ℕ). cond (places_in vs) n 6)
    (any_row_lem (λ v. ltb 15 (layer_in v)) (λ v. ltb (layer_in v) layer_limit) layers_in
    (λ v. not-below layer_limit (layer_in v)) refl (λ v vs. refl) 16 vs 0)

puts_row_lem : (vs : List (Vals put_line)) → Row (puts_row vs) (puts_check vs)
puts_row_lem vs = rw (puts_tests vs) (go (places_in vs) (layers_in vs))
  where
    go : (a b : Bool)
        → Row (cond a (cond b 0 16) 6) (result_and (cond a passed (Err NoPlace)) (cond b passed (Err NoLayer)))
    go true true = record { none = λ e. refl; some = λ h fs ws g. absurd (omega arith) }
    go true false = record { none = λ e. absurd (omega arith); some = λ h fs ws g. refl }
    go false b = record { none = λ e. absurd (omega arith); some = λ h fs ws g. refl }

lines_row_lem : (t : Text) (q : ℕ) (d : Script) (a b : ℕ)
    → Row (lines_row t q d a b) (result_and (form_check t) (script_check q d a b))
lines_row_lem lost q d a b = record { none = λ e. absurd (omega arith); some = λ h fs ws g. refl }
lines_row_lem (left l) q d a b = row-then (row q d.coords d.corners a b) (puts_row_lem d.puts)

-- where no row applies, none of an opening's does
opens_too : (t : Text) (q : ℕ) (d : Script) (a b : ℕ) → lines_row t q d a b ≡ 0
    → open_row q d.coords d.corners a b ≡ 0
opens_too lost q d a b e = absurd (omega arith)
opens_too (left l) q d a b e = go (dec_lt 0 (open_row q d.coords d.corners a b))
  where
    go : Dec (0 < open_row q d.coords d.corners a b) → open_row q d.coords d.corners a b ≡ 0
    go (yes h) = rw (lt-ltb 0 (open_row q d.coords d.corners a b) h) at e
    go (no h) = omega arith

-- ---- what is left
puts_called : (q : ℕ) (vs : List (Vals put_line)) (a : After)
    → leaving (puts_on q vs a) ≡ leaves q (leaving a) (map put_call vs)
unfolding puts_on store
puts_called q [] a = refl
puts_called q (v ∷ vs) a = puts_called q vs (put_on q v a)

-- puts make no step: what is charged is still left or dropped
in_step : (vs : List (Vals put_line)) (m : Machine) → Valid m.mesh m.places
    → m.charged ≡ left_sum m.mesh m.places + m.dropped
    → (after_all m (map put_call vs)).charged
    ≡ left_sum (after_all m (map put_call vs)).mesh (after_all m (map put_call vs)).places
    + (after_all m (map put_call vs)).dropped
in_step [] m v e = e
in_step (x ∷ vs) m v e =
    let k = kept m v (put_call x) in
    in_step vs (machine m (put_call x)).next k.valid (omega (arith, e, k.charged, k.balance))

module _ (wd : ℕ) (ly : Layered wd) (fs : List Float) (ws : List ℕ) (s : List ℕ) where
  abbrev d : Script
  d = (read_of s).val

  abbrev n : ℕ
  n = lines_row (read_of s).text wd d (length fs) (length ws)

  -- what its opening leaves
  opening : n ≡ 0
      → Holds wd (opened d.radius d.coords d.corners)
      (leaving (open_step wd fs ws d.radius d.coords d.corners)) (excess_f d.coords fs)
      (excess_w wd d.corners ws)
  opening h =
      holds wd (formed ly) d.radius d.coords d.corners fs ws
      (opens_too (read_of s).text wd d (length fs) (length ws) h)

  pub played-on : n ≡ 0
      → ((load_step wd fs ws s).reply ≡ counted (d.verts ∷ d.faces ∷ length d.puts ∷ []))
      × (leaving (load_step wd fs ws s)
      ≡ leaves wd (leaving (open_step wd fs ws d.radius d.coords d.corners)) (map put_call d.puts))
  unfolding load_step
  played-on h =
      rw ((lines_row_lem (read_of s).text wd d (length fs) (length ws)).none h)
      (refl, puts_called wd d.puts (open_step wd fs ws d.radius d.coords d.corners))

  pub scripted-holds : n ≡ 0
      → Holds wd (scripted d) (leaving (load_step wd fs ws s)) (excess_f d.coords fs) (excess_w wd d.corners ws)
  scripted-holds h =
      let cs = map put_call d.puts in
      let e = after_calls wd ly (excess_f d.coords fs) (excess_w wd d.corners ws) cs (opening h) in
      record { runs = (played-on h).1 ∙ e.runs; valid = e.valid }

  pub scripted_in_step : n ≡ 0
      → (scripted d).charged ≡ left_sum (scripted d).mesh (scripted d).places + (scripted d).dropped
  scripted_in_step h = in_step d.puts (opened d.radius d.coords d.corners) (opening h).valid refl

  pub not-loaded : 0 < n → load_step wd fs ws s ≡ after (refused_by n) fs ws
  unfolding load_step
  not-loaded h = (lines_row_lem (read_of s).text wd d (length fs) (length ws)).some h fs ws _
