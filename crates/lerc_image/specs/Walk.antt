-- Walk: every block checked, then the list of their starts.
-- Assumes nothing.
use Rattle.std.specs.Prelude.{ℕ, ◌≡◌, not, ◌&&◌, List, length, take, leb, ltb}
use Rattle.lerc_words.specs.Res.{Res, ok, fail, ◌>>=◌, refuse, marked, require, after}
use Rattle.lerc_words.specs.Lists.{over}
use Rattle.lerc_header.specs.declared.Header.{Header}
use Rattle.lerc_header.specs.Header.{shape_of, held}
use Rattle.lerc_header.specs.Shape.{block_count}
use Rattle.lerc_ranges.specs.declared.Ranges.{Ranges}
use Rattle.lerc_ranges.specs.Ranges.{pairs_right}
use Rattle.lerc_image.specs.declared.Walked.{Walked}
use Rattle.lerc_sweep.specs.Sweep.{Way, raw_from, blocks_from, huffman_from, swept}
use Rattle.lerc_image.specs.Blocks.{Chain, all_blocks}

-- "10: walk on a body not in blocks", which the sweep byte tells, or the mode byte: "10 included"
unfoldable pub way_walked : List ℕ → Header → List ℕ → List ℕ → ℕ → Way → Res Chain
way_walked s h maxima m sweep (raw_from at) = marked sweep (fail (refuse 10))
way_walked s h maxima m sweep (blocks_from at) = all_blocks s h maxima m at
way_walked s h maxima m sweep (huffman_from delta mode) = marked mode (fail (refuse 10))

-- a body that is neither empty nor constant: the sweep byte, then "check every block, values included"
unfoldable pub body_walked : List ℕ → Header → List ℕ → List ℕ → ℕ → Res Chain
body_walked s h maxima m at = do
  way ← swept s h.kind h.error at
  way_walked s h maxima m at way

-- 3, 4, 1, 5, 7; "Empty, constant and raw bodies give a walk 10"; then the body
unfoldable pub walk_says : List ℕ → Header → Ranges → List ℕ → ℕ → Res Chain
walk_says b h r m room = do
  e ← held h (length b)
  _ ← require (leb e.mask (length m) && leb e.blocks room) 5
  _ ← require (pairs_right h.depth r) 7
  _ ← require (ltb 0 h.valid && not r.constant) 10
  body_walked (take h.size b) h r.max m r.at

-- the count of blocks and where the last one ends
abbrev pub Walk : Type 0
Walk = Walked

abbrev pub walk_count : Header → Chain → Res Walk
walk_count h c = ok (record { blocks = block_count (shape_of h); end = c.end })

-- the answer to a chain, accepted or not
abbrev pub walk_of : Header → Res Chain → Res Walk
walk_of h c = c >>= walk_count h

-- "then write the list of block starts": "the list's first count entries"
unfoldable pub walk_list : List ℕ → Header → Ranges → List ℕ → List ℕ → List ℕ
walk_list b h r m list = after (walk_says b h r m (length list)) list (λ c. over c.starts list)

pub record BlocksWalked (b : List ℕ) (h : Header) (ranges : Ranges) (m : List ℕ) (r : Res Walk) (old new : List ℕ) : Type 0 where
  pub says : r ≡ (walk_says b h ranges m (length old) >>= walk_count h)
  pub list : new ≡ walk_list b h ranges m old
