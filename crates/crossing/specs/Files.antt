-- What C gives of a kernel file: a loader by its number. Definitions only.
use Rattle.std.specs.Prelude.{ℕ, cond, eqb}
use Rattle.convert.specs.declared.file.Loader.{Loader}
use Rattle.convert.specs.declared.file.Loader.TheVariants.{Native, Source, Strict}

-- 0 native, 1 source, any other strict
abbrev pub loader_of : ℕ → Loader
loader_of n = cond (eqb n 0) Native (cond (eqb n 1) Source Strict)
