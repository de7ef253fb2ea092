-- 02's number and values for the reader's answer. Definitions only.
use Rattle.std.specs.Prelude.{Result, [], ◌∷◌}
use Rattle.base.specs.Answers.{Answer, answer_by, counted}
use Rattle.base.specs.declared.refusal.Refusal.{Refusal}
use Rattle.reader.specs.declared.read.Loaded.{Loaded}

-- vertices, faces, lines of puts
abbrev pub loaded : Result Loaded Refusal → Answer
loaded = answer_by (λ l. counted (l.verts ∷ l.faces ∷ l.puts ∷ []))
