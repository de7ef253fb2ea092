-- The numbers of 01's table of refusals, "The store", and of 02's. Definitions only.
use Rattle.std.specs.Prelude.{ℕ}
use Rattle.base.specs.declared.refusal.Refusal.{Refusal}
use Rattle.base.specs.declared.refusal.Refusal.TheVariants.{Ragged, Oversize, LooseCorner, ShortStore, Unsound, NoPlace, Vacant, Unfinished, ShortList, BadMatrix, FlatPivot, Exponent, BadLine, BadTrack, ManyKernels, NoLayer, NoFigure, ShortPage, ShortText, BadKernelLine, LoadersDiffer, Unclosed}

abbrev pub number : Refusal → ℕ
-- coordinate or index count not a multiple of 3
number Ragged = 1
-- V or F above limit
number Oversize = 2
-- index ≥ V
number LooseCorner = 3
-- below 1,761+3V floats or 98+3F words; "below 130+3F words" since 02's L5
number ShortStore = 4
-- store not sound
number Unsound = 5
-- place ≥ 32
number NoPlace = 6
-- clear or reweigh of an empty place; an adoption of one
number Vacant = 7
-- left > 0, for report, or density and list by mass with target > 0; by 02 also a track (L1), counted over a reading's
-- layers (L5), and a page (L8)
number Unfinished = 8
-- run to be written under 6 floats per piece (or kernel) written, or a kernel list given whose length isn't a multiple
-- of 6
number ShortList = 9
-- n > 16, length not n(n+1), or answer shorter than n
number BadMatrix = 10
-- solve fails; by 02's L4 with the column of the flat pivot
number FlatPivot = 11
-- `normalize_kernels`: some abs(alpha - 1) > 1e-9 (NaN passes)
number Exponent = 12
-- a line of the program that is none of its forms; "also for bytes that aren't one whole opening and then puts" (02,
-- L10)
number BadLine = 13
-- a track of more than 4,096 points, of a coordinate count that isn't a multiple of 3, or with a run that is too short
-- (02, L1)
number BadTrack = 14
-- more than 32 kernels to be billed (02, L3)
number ManyKernels = 15
-- a layer is above 15 (02, L5)
number NoLayer = 16
-- a place's field mass is NaN or, unrounded, exceeds 10^15 in magnitude (02, L8)
number NoFigure = 17
-- the lent page is too short (02, L8)
number ShortPage = 18
-- the writer's lent bytes are too few (02, L10)
number ShortText = 19
-- a line isn't of the form of a kernel line (02, L11)
number BadKernelLine = 20
-- the strict form finds differing kernels (02, L11)
number LoadersDiffer = 21
-- a face names a corner twice, or a directed edge or its reverse does not occur once (02, L13)
number Unclosed = 22
