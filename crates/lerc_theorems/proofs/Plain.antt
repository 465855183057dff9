-- The table's lines for values and for a block name numbers alone, at place 0: a block's place is put on behind them.
-- Assumes nothing.
use mathlib.Core.Path.{◌≡◌, refl}
use mathlib.Core.List.{List}
use Prim.Native.Nat.{ℕ}
use Rattle.lerc_words.specs.declared.Refusal.{Refusal}
use Rattle.lerc_words.specs.Res.{refuse}
use Rattle.lerc_theorems.specs.BlockTable.{StoredRefused, not_finite, out_of_range, no-kind, ConstantsRefused, not-constant, TabledRefused, no_bits, entries-cut, entries-few, table-cut, PackedRefused, plain-cut, not-tabled, PlanRefused, counts-cut, width-wrong, count_cut, count-large, packed-refused, not-planned, index-large, LevelsRefused, level-refused, counts-refused, miscounted-block, value-refused, OffsetRefused, kind-refused, offset-cut, offset-not-finite, levels-refused, BlockRefused, flag-cut, check-wrong, raw-cut, offset-refused}

abbrev pub Plain : Refusal → Type 0
Plain why = why ≡ refuse why.number

pub stored-plain : {kind v : ℕ} {why : Refusal} → StoredRefused kind v why → Plain why
stored-plain (not_finite k f) = refl
stored-plain (out_of_range k f l) = refl

pub constants-plain : {depth kind : ℕ} {values : List ℕ} {why : Refusal} → ConstantsRefused depth kind values why → Plain why
constants-plain (not-constant i a l r) = stored-plain r

tabled-plain : {s : List ℕ} {at n bits : ℕ} {why : Refusal} → TabledRefused s at n bits why → Plain why
tabled-plain (no_bits z) = refl
tabled-plain (entries-cut b l) = refl
tabled-plain (entries-few v b d l) = refl
tabled-plain (table-cut v b d l k) = refl

packed-plain : {s : List ℕ} {at n h : ℕ} {why : Refusal} → PackedRefused s at n h why → Plain why
packed-plain (plain-cut z l) = refl
packed-plain (not-tabled z r) = tabled-plain r

plan-plain : {s : List ℕ} {at : ℕ} {why : Refusal} → PlanRefused s at why → Plain why
plan-plain (counts-cut l) = refl
plan-plain (width-wrong h d l) = refl
plan-plain (count_cut h d l k) = refl
plan-plain (count-large h n d l e k) = refl
plan-plain (packed-refused h n d l e k r) = packed-plain r

levels-plain : {s : List ℕ} {at kind error top offset flag n : ℕ} {why : Refusal} → LevelsRefused s at kind error top offset flag n why → Plain why
levels-plain (level-refused z l r) = stored-plain r
levels-plain (counts-refused z (not-planned r)) = plan-plain r
levels-plain (counts-refused z (index-large p d y a)) = refl
levels-plain (miscounted-block c z d k) = refl
levels-plain (value-refused c i z d k l r) = stored-plain r

offset-plain : {s : List ℕ} {at kind error top flag n : ℕ} {why : Refusal} → OffsetRefused s at kind error top flag n why → Plain why
offset-plain (kind-refused (no-kind l)) = refl
offset-plain (offset-cut k d l) = refl
offset-plain (offset-not-finite k v d e f) = refl
offset-plain (levels-refused k v d e f r) = levels-plain r

pub block-plain : {s : List ℕ} {at kind error top x n : ℕ} {why : Refusal} → BlockRefused s at kind error top x n why → Plain why
block-plain (flag-cut l) = refl
block-plain (check-wrong flag d c) = refl
block-plain (raw-cut flag d c z l) = refl
block-plain (offset-refused flag d c z y r) = offset-plain r
