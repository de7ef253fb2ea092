-- 01, "Remainder", program `bench`: a call, what it leaves of the store and what it prints. Definitions only.
use Rattle.std.specs.Prelude.{ℕ, List, Float}
use Rattle.base.specs.Refusals.{number}
use Rattle.base.specs.Answers.{Answer}
use Rattle.base.specs.declared.refusal.Refusal.TheVariants.{BadLine}
use Rattle.layout.specs.Layout.{width}
use Rattle.layout.specs.Layers.{all_layers}
use Rattle.layout.specs.After.{After}
use Rattle.store.specs.Calls.{clear_step, reweigh_step}
use Rattle.store.specs.Puts.{put_step_lem}
use Rattle.advance.specs.Steps.{advance_step}
use Rattle.readings.specs.Readings.{read_step, density, report}
use Rattle.forms.specs.declared.line.Call.{Call}
use Rattle.forms.specs.declared.line.Call.TheVariants.{Put, Clear, Reweigh, Advance, Density, Report}
use Rattle.calls.specs.Texts.{no_text, put_text, density_text, advance_text, clear_text, reweigh_text, report_text}

-- a call on the store: its runs afterwards, and the text
pub record Called : Type 0 where
  pub floats : List Float
  pub words : List ℕ
  pub text : List ℕ

abbrev pub called : (Answer → List ℕ) → After → Called
called text a = record { floats = a.floats; words = a.words; text = text a.reply }

abbrev pub looked : List Float → List ℕ → List ℕ → Called
looked fs ws text = record { floats = fs; words = ws; text = text }

-- "Any other line prints (no 13)"
abbrev pub bad_text : List ℕ
bad_text = no_text (number BadLine)

-- 02, L5: "The bench puts in layer 0 and reads with all sixteen."
unfoldable pub call_of : List Float → List ℕ → Call → Called
call_of fs ws (Put p) = called (put_text p.place) (put_step_lem width fs ws p.place p.kernel 0)
call_of fs ws (Clear place) = called (clear_text place) (clear_step width fs ws place)
call_of fs ws (Reweigh place w) = called (reweigh_text place) (reweigh_step width fs ws place w)
call_of fs ws (Advance n) = called advance_text (advance_step width fs ws n)
call_of fs ws (Density v p) = looked fs ws (density_text (read_step width fs ws all_layers (density v p)).reply)
call_of fs ws (Report v) = looked fs ws (report_text (read_step width fs ws all_layers (report v)).reply)
