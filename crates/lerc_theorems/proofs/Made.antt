-- A promise makes a call, wherever the slices stand: the way back from what a call's promise says (`Calls`).
-- Assumes nothing.
use mathlib.Core.Path.{◌≡◌, refl}
use mathlib.Core.Bool.{Bool}
use mathlib.Core.List.{List}
use Prim.Native.Nat.{ℕ}
use denote.Ref.{Bor, MutBor}
use lib.ListN.{length}
use Rattle.lerc_header.specs.declared.Header.{Header}
use Rattle.lerc_header.specs.Header.{header_says}
use Rattle.lerc_ranges.specs.declared.Ranges.{Ranges}
use Rattle.lerc_ranges.specs.Ranges.{read_ranges_says}
use Rattle.lerc_validity.specs.Validity.{prepare_says, Prepared, in_force, stands_in, MaskTold}
use Rattle.lerc_image.specs.Walk.{BlocksWalked, Walk}
use Rattle.lerc_image.specs.Fill.{Filled}
use Rattle.lerc.specs.Read.{Lent, WholeRead, ReadTold}
use Rattle.lerc_theorems.specs.Calls.{HeaderCall, PrepareCall, HandedCall, RangesCall, WalkCall, FillCall, ReadCall}
use Rattle.lerc_words.specs.Res.{Res}

abbrev lent : List ℕ → Bor (List ℕ)
lent s = record { ref_ptr = (0, 0); now = s }

abbrev lent_mut : List ℕ → MutBor (List ℕ)
lent_mut s = record { ref_ptr = (0, 0); ghost_name = 0; now = s }

pub header_made : (b : List ℕ) (r : Res Header) → r ≡ header_says b → HeaderCall b r
header_made b r p = record {
  lives = (b, tt);
  inputs = (lent b, tt);
  answer = r;
  outputs = (lent b, tt);
  promised = p;
  inputs_are = refl;
  answer-is = refl;
  outputs-are = refl;
}

pub prepare-made : (b : List ℕ) (h : Header) (reuse : Bool) (kept : List ℕ) (r : Res MaskTold) (old new : List ℕ) → Prepared (prepare_says b h reuse kept (length old)) r old new → PrepareCall b h reuse kept r old new
prepare-made b h reuse kept r old new p = record {
  lives = (b, (kept, (old, tt)));
  inputs = (lent b, (h, (reuse, (lent kept, (lent_mut old, tt)))));
  answer = r;
  outputs = (lent b, (h, (reuse, (lent kept, (lent_mut new, tt)))));
  promised = p;
  inputs_are = refl;
  answer-is = refl;
  outputs-are = refl;
}

pub handed-made : (kept spare : List ℕ) (said : Res MaskTold) → HandedCall kept spare said (in_force said kept spare)
handed-made kept spare said = record {
  lives = (kept, tt);
  inputs = (lent kept, (lent spare, (said, tt)));
  answer = record { ref_ptr = stands_in said (0, 0) (0, 0); now = in_force said kept spare };
  outputs = (lent kept, (lent spare, (said, tt)));
  promised = (refl, refl);
  inputs_are = refl;
  answer-is = refl;
  outputs-are = refl;
}

pub ranges-made : (b : List ℕ) (h : Header) (r : Res Ranges) → r ≡ (read_ranges_says b h) → RangesCall b h r
ranges-made b h r p = record {
  lives = (b, tt);
  inputs = (lent b, (h, tt));
  answer = r;
  outputs = (lent b, (h, tt));
  promised = p;
  inputs_are = refl;
  answer-is = refl;
  outputs-are = refl;
}

pub walk-made : (b : List ℕ) (h : Header) (g : Ranges) (m : List ℕ) (r : Res Walk) (old new : List ℕ) → BlocksWalked b h g m r old new → WalkCall b h g m r old new
walk-made b h g m r old new p = record {
  lives = (b, (m, (old, tt)));
  inputs = (lent b, (h, (g, (lent m, (lent_mut old, tt)))));
  answer = r;
  outputs = (lent b, (h, (g, (lent m, (lent_mut new, tt)))));
  promised = p;
  inputs_are = refl;
  answer-is = refl;
  outputs-are = refl;
}

pub fill-made : (b : List ℕ) (h : Header) (g : Ranges) (m list : List ℕ) (n : ℕ) (r : Res ℕ) (old new : List ℕ) → Filled b h g m list n r old new → FillCall b h g m list n r old new
fill-made b h g m list n r old new p = record {
  lives = (b, (m, (list, (old, tt))));
  inputs = (lent b, (h, (g, (lent m, (lent list, (n, (lent_mut old, tt)))))));
  answer = r;
  outputs = (lent b, (h, (g, (lent m, (lent list, (n, (lent_mut new, tt)))))));
  promised = p;
  inputs_are = refl;
  answer-is = refl;
  outputs-are = refl;
}

pub read_made : (b : List ℕ) (reuse : Bool) (r : Res ReadTold) (old new : Lent) → WholeRead b reuse r old new → ReadCall b reuse r old new
read_made b reuse r old new p = record {
  lives = (b, (old.kept, (old.spare, (old.list, (old.image, tt)))));
  inputs = (lent b, (reuse, (lent_mut old.kept, (lent_mut old.spare, (lent_mut old.list, (lent_mut old.image, tt))))));
  answer = r;
  outputs = (lent b, (reuse, (lent_mut new.kept, (lent_mut new.spare, (lent_mut new.list, (lent_mut new.image, tt))))));
  promised = p;
  inputs_are = refl;
  answer-is = refl;
  outputs-are = refl;
}
