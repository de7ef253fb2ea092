-- 02, L11, "One kernel file, two loaders": what each loader makes of a file kernel. Definitions only.
use Rattle.std.specs.Prelude.{Bool, true, ◌&&◌, List, [], ◌∷◌, eqb, get_or, Float, None, Option, Some}
use Rattle.std.specs.Float.{nan, binary64}
use Rattle.std.specs.Float.Ieee.{to_bits}
use Rattle.kernel.specs.declared.kernel.Kernel.{Kernel}
use Rattle.kernel.specs.declared.file.Kilometres.{Kilometres}
use Rattle.kernel.specs.File.{in_metres, from_file}
use Rattle.convert.specs.declared.file.FileKernel.{FileKernel}
use Rattle.convert.specs.declared.file.Loader.{Loader}
use Rattle.convert.specs.declared.file.Loader.TheVariants.{Native, Source, Strict}

-- a file kernel's lengths, in kilometres
abbrev pub lengths_of : FileKernel → Kilometres
lengths_of f = (f.x ∷ f.y ∷ f.z ∷ [], f.sigma)

-- "The native one replaces an exponent that isn't above 0"
unfoldable pub native_of : Float → FileKernel → Kernel
native_of default f = from_file (lengths_of f) f.w f.exponent default

-- "`parse_density_text` keeps it": `entry.alpha.unwrap_or(file.alpha_default)`
unfoldable pub given_or : Option Float → Float → Float
given_or (Some alpha) default = alpha
given_or None default = default

unfoldable pub source_of : Float → FileKernel → Kernel
source_of default f =
    record {
      c = (in_metres (lengths_of f)).0;
      sigma = (in_metres (lengths_of f)).1;
      w = f.w;
      alpha = given_or f.exponent default;
    }

-- "for a named loader, and a strict form", whose kernels are both loaders'
unfoldable pub loaded : Loader → Float → FileKernel → Kernel
loaded Native default f = native_of default f
loaded Source default f = source_of default f
loaded Strict default f = native_of default f

-- "equal kernels, bit for bit with NaN as one": each of the six floats, by its bits; `to_bits` has one pattern for NaN
abbrev pub same_bits_lem : Float → Float → Bool
same_bits_lem x y = eqb (to_bits binary64 x) (to_bits binary64 y)

abbrev pub same_kernel : Kernel → Kernel → Bool
same_kernel j k =
    same_bits_lem (get_or j.c 0 nan) (get_or k.c 0 nan)
    && (same_bits_lem (get_or j.c 1 nan) (get_or k.c 1 nan) && (same_bits_lem (get_or j.c 2 nan) (get_or k.c 2 nan)
    && (same_bits_lem j.sigma k.sigma && (same_bits_lem j.w k.w && same_bits_lem j.alpha k.alpha))))

unfoldable pub alike : Float → FileKernel → Bool
alike default f = same_kernel (native_of default f) (source_of default f)

abbrev pub all_alike_lem : Float → List FileKernel → Bool
all_alike_lem default [] = true
all_alike_lem default (f ∷ fs) = alike default f && all_alike_lem default fs
