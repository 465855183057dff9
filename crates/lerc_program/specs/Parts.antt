-- What private functions promise; not part of the rules.
-- Assumes nothing.
use Rattle.std.specs.Prelude.{ℕ, ◌≤◌, ◌≡◌, List, length, replicate}
use Rattle.lerc.specs.Read.{Lent}
use Rattle.lerc_program.specs.Program.{bytes_most, cells_most}

-- a blob that is not too long, and the program's own slices
pub record Ready (b : List ℕ) (l : Lent) : Type 0 where
  pub short : length b ≤ bytes_most
  pub kept : l.kept ≡ replicate 512 0
  pub spare : length l.spare ≡ 512
  pub list : length l.list ≡ cells_most
  pub image : length l.image ≡ cells_most
