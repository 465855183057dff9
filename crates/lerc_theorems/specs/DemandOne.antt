-- Demand 1: every promise leaves no room, and every refusal is the one that the rules name.
-- Assumes nothing.
use Rattle.lerc_words.specs.declared.Refusal.{Refusal}
use Rattle.lerc.proofs.read.Reads as read
use Rattle.std.specs.Prelude.{ℕ}
use Rattle.lerc_theorems.specs.Promises.{lent, HandedBack, NoRoom}
use Rattle.lerc_theorems.specs.Refusals.{RefusalsKeep, RefusalsEmpty, WholeKeeps}
use Rattle.lerc_theorems.specs.Numbers.{NumbersExactly, PlacesExactly, NumbersOnly}
use Rattle.lerc_theorems.specs.Writes.{WritesOnly, WholeWrites}
use Rattle.lerc_words.specs.Res.{ok, fail}

pub record DemandOne : Type 2 where
  -- "For every input a public function's promise leaves no room: answer, number, and every lent byte afterwards."
  pub no_room : NoRoom
  -- the table of numbers: "given when", for each number of each public function exactly
  pub numbers-exactly : NumbersExactly
  -- the table of places: "a place with each number", for each number and each failing demand exactly
  pub places-exactly : PlacesExactly
  -- which numbers each public function can give at all
  pub numbers-only : NumbersOnly
  -- "It leaves every lent slice unchanged"
  pub refusal-keeps : RefusalsKeep
  -- "except: where the mask section was accepted and no mask was reused, the spare's first (pixels+7)/8 bytes hold the new mask"
  pub whole-keeps : (k : _) (a : _) (x : _) (why : Refusal) → read.Post k a (fail why) x → WholeKeeps a.0.now a.1.0 (lent a) (lent x)
  -- "A refusal carries its number, and 0 for each count and offset; a part to be handed back is then empty."
  pub refusal-empty : RefusalsEmpty
  -- "handed back as a part of the kept mask (reuse) or of the spare (otherwise)"
  pub handed-back : HandedBack
  -- "Success writes only the mask's length, the list's first count entries and valid cells."
  pub writes-only : WritesOnly
  -- the same of whole read
  pub whole-writes : (k : _) (a : _) (x : _) (h : _) (n end : ℕ) → read.Post k a (ok (record { header = h; blocks = n; end = end })) x → WholeWrites a.0.now a.1.0 n (lent a) (lent x)
