-- "Then ceilings (4): rows and columns 4,096, depth 64, cells (pixels × depth) 4,194,304, side 16, size 16,777,216."
-- Assumes nothing.
use Rattle.std.specs.Prelude.{ℕ}

abbrev pub sideways : ℕ
sideways = 4096

-- also the length of every array by depth
abbrev pub depth_limit : ℕ
depth_limit = 64

abbrev pub cell_limit : ℕ
cell_limit = 4194304

abbrev pub side_limit : ℕ
side_limit = 16

abbrev pub size_limit : ℕ
size_limit = 16777216
