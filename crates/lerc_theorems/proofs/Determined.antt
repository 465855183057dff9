-- No promise of a public function leaves room: two outcomes that it allows for one input coincide.
-- Assumes nothing.
use mathlib.Core.Path.{◌≡◌, ◌∙◌, sym, refl}
use mathlib.Core.Bool.{Bool}
use mathlib.Core.List.{List, not-mem-nil, ne-nil_of_mem}
use Prim.Native.Nat.{ℕ}
use Rattle.lerc_words.specs.Res.{Res}
use Rattle.lerc_bits.proofs.Returns.{decoded-same}
use Rattle.lerc_text.proofs.Putting.{put_same}
use Rattle.lerc_header.specs.declared.Header.{Header}
use Rattle.lerc_mask.proofs.Passes.{unrolled-same}
use Rattle.lerc_mask.proofs.Meeting.{compared_same as runs-compared-same}
use Rattle.lerc_ranges.specs.declared.Ranges.{Ranges}
use Rattle.lerc_validity.proofs.Prepared.{prepared-same, compared_same}
use Rattle.lerc_block.proofs.Returns.{read_same as block-read-same}
use Rattle.lerc_image.specs.Blocks.{Chain}
use Rattle.lerc_image.specs.Walk.{BlocksWalked, Walk}
use Rattle.lerc_image.specs.Fill.{Filled}
use Rattle.lerc_image.specs.Tiles.{Tiled}
use Rattle.lerc.specs.Read.{Lent, WholeRead, ReadTold}
use Rattle.lerc.specs.Stage.{StageRead, Publishing, PublishTold}
use Rattle.lerc_theorems.specs.Promises.{Answers, AnyAnswer, NoRoom}
use Rattle.lerc.specs.declared.Staged.{Staged}

-- ---- promises of an answer and of lent slices

pair_same : {A B : Type 0} {a b : A} {x y : B} → a ≡ b → x ≡ y → ◌≡◌ {A = A × B} (a, x) (b, y)
pair_same p q = rw (p, q)

walked_same : {b : List ℕ} {h : Header} {g : Ranges} {m : List ℕ} {r q : Res Walk} {old x y : List ℕ} → BlocksWalked b h g m r old x → BlocksWalked b h g m q old y → (r ≡ q) × (x ≡ y)
walked_same {r = r} {q = q} s t = (s.says ∙ sym t.says, s.list ∙ sym t.list)

filled-same : {b : List ℕ} {h : Header} {g : Ranges} {m list : List ℕ} {n : ℕ} {r q : Res ℕ} {old x y : List ℕ} → Filled b h g m list n r old x → Filled b h g m list n q old y → (r ≡ q) × (x ≡ y)
filled-same {r = r} {q = q} s t = (s.says ∙ sym t.says, s.image ∙ sym t.image)

tiled-same : {c : Res Chain} {h : Header} {m : List ℕ} {r q : Res Walk} {list l k image x y : List ℕ} → Tiled c h m r list l image x → Tiled c h m q list k image y → (r ≡ q) × (◌≡◌ {A = List ℕ × List ℕ} (l, x) (k, y))
tiled-same {r = r} {q = q} s t = (s.says ∙ sym t.says, pair_same (s.list ∙ sym t.list) (s.image ∙ sym t.image))

pub staged-same : {b : List ℕ} {reuse : Bool} {r q : Res Staged} {old : Lent} {x y l k : List ℕ} → StageRead b reuse r old x l → StageRead b reuse q old y k → (r ≡ q) × (◌≡◌ {A = List ℕ × List ℕ} (x, l) (y, k))
staged-same {r = r} {q = q} s t = (s.says ∙ sym t.says, pair_same (s.spare ∙ sym t.spare) (s.list ∙ sym t.list))

pub published-same : {b : List ℕ} {reuse : Bool} {a : Res Staged} {r q : Res PublishTold} {old : Lent} {x y m k : List ℕ} → Publishing b reuse a r old m x → Publishing b reuse a q old k y → (r ≡ q) × (◌≡◌ {A = List ℕ × List ℕ} (m, x) (k, y))
published-same {r = r} {q = q} s t = (s.says ∙ sym t.says, pair_same (s.kept ∙ sym t.kept) (s.image ∙ sym t.image))

whole_same : {b : List ℕ} {reuse : Bool} {r q : Res ReadTold} {old x y : Lent} → WholeRead b reuse r old x → WholeRead b reuse q old y → (r ≡ q) × (x ≡ y)
whole_same {r = r} {q = q} s t = (s.says ∙ sym t.says, s.lent ∙ sym t.lent)

-- ---- promises by their form

module _ {K A R O : Type 0} {Pre : K → A → Type 0} {Post : K → A → R → O → Type 0} (asks : (k : K) (a : A) → Pre k a) where
  -- the answer is given
  given : (f : K → A → R) → ((k : K) (a : A) (r : R) (x : O) → Post k a r x → r ≡ f k a) → Answers Pre Post
  given f h = record { asks_nothing = asks; same = λ k a r q x y p s. (h k a r x p ∙ sym (h k a q y s), refl) }

pub any-answer : AnyAnswer
any-answer T L none = (
  record { asks_nothing = λ k a b m. absurd (ne-nil_of_mem m none); same = λ k a r q x y p s. (p ∙ sym s, refl) },
  record { asks_nothing = λ k a b m. absurd (ne-nil_of_mem m none); same = λ k a r q x y p s. (p ∙ sym s, refl) },
)

pub no_room : NoRoom
no_room = record {
  refusal-at = given (λ k a. tt) _ (λ k a r x p. p);
  any-answer = any-answer;
  word-refusal = record { asks_nothing = λ k a b m. absurd (not-mem-nil m); same = λ k a r q x y p s. (p ∙ sym s, refl) };
  marked-word = record { asks_nothing = λ k a b m. absurd (not-mem-nil m); same = λ k a r q x y p s. (p ∙ sym s, refl) };
  peek = given (λ k a. tt) _ (λ k a r x p. p);
  bytes = given (λ k a. tt) _ (λ k a r x p. p);
  word = given (λ k a. tt) _ (λ k a r x p. p);
  words = record { asks_nothing = λ k a. tt; same = λ k a r q x y p s. (refl, p ∙ sym s) };
  copy-bytes = record { asks_nothing = λ k a b m. absurd (not-mem-nil m); same = λ k a r q x y p s. (refl, p ∙ sym s) };
  copy-words = record { asks_nothing = λ k a b m. absurd (not-mem-nil m); same = λ k a r q x y p s. (refl, p ∙ sym s) };
  fill-bytes = record { asks_nothing = λ k a b m. absurd (not-mem-nil m); same = λ k a r q x y p s. (refl, p ∙ sym s) };
  fill-words = record { asks_nothing = λ k a b m. absurd (not-mem-nil m); same = λ k a r q x y p s. (refl, p ∙ sym s) };
  begins-with = given (λ k a. tt) _ (λ k a r x p. p);
  all-bytes = given (λ k a. tt) _ (λ k a r x p. p);
  integer-refusal = record { asks_nothing = λ k a b m. absurd (not-mem-nil m); same = λ k a r q x y p s. (p ∙ sym s, refl) };
  plus = given (λ k a. tt) _ (λ k a r x p. p);
  scale = given (λ k a. tt) _ (λ k a r x p. p);
  is_finite = given (λ k a. tt) _ (λ k a r x p. p);
  less = given (λ k a. tt) _ (λ k a r x p. p);
  same = given (λ k a. tt) _ (λ k a r x p. p);
  minimum = given (λ k a. tt) _ (λ k a r x p. p);
  size = given (λ k a. tt) _ (λ k a r x p. p);
  number = given (λ k a. tt) _ (λ k a r x p. p);
  narrow = given (λ k a. tt) _ (λ k a r x p. p);
  to-integer = given (λ k a. tt) _ (λ k a r x p. p);
  step = given (λ k a. tt) _ (λ k a r x p. p);
  twice-whole = given (λ k a. tt) _ (λ k a r x p. p);
  raised = given (λ k a. tt) _ (λ k a r x p. p);
  steps = record { asks_nothing = λ k a. tt; same = λ k a r q x y p s. (refl, p ∙ sym s) };
  single-steps = record { asks_nothing = λ k a. tt; same = λ k a r q x y p s. (refl, p ∙ sym s) };
  float-ready = given (λ k a. tt) _ (λ k a r x p. p);
  offset-refusal = record { asks_nothing = λ k a b m. absurd (not-mem-nil m); same = λ k a r q x y p s. (p ∙ sym s, refl) };
  sample-refusal = record { asks_nothing = λ k a b m. absurd (not-mem-nil m); same = λ k a r q x y p s. (p ∙ sym s, refl) };
  stored-refusal = record { asks_nothing = λ k a b m. absurd (not-mem-nil m); same = λ k a r q x y p s. (p ∙ sym s, refl) };
  offset-kind = given (λ k a. tt) _ (λ k a r x p. p);
  read-sample = given (λ k a. tt) _ (λ k a r x p. p);
  stored = given (λ k a. tt) _ (λ k a r x p. p);
  plan-refusal = record { asks_nothing = λ k a b m. absurd (not-mem-nil m); same = λ k a r q x y p s. (p ∙ sym s, refl) };
  marked-plan = record { asks_nothing = λ k a b m. absurd (not-mem-nil m); same = λ k a r q x y p s. (p ∙ sym s, refl) };
  counts-refusal = record { asks_nothing = λ k a b m. absurd (not-mem-nil m); same = λ k a r q x y p s. (p ∙ sym s, refl) };
  marked-counts = record { asks_nothing = λ k a b m. absurd (not-mem-nil m); same = λ k a r q x y p s. (p ∙ sym s, refl) };
  inspect = given (λ k a. tt) _ (λ k a r x p. p);
  decode-plan = record { asks_nothing = λ k a. tt; same = λ k a r q x y p s. decoded-same p s };
  check-plan = given (λ k a. tt) _ (λ k a r x p. p);
  decode-counts = record { asks_nothing = λ k a. tt; same = λ k a r q x y p s. decoded-same p s };
  check-counts = given (λ k a. tt) _ (λ k a r x p. p);
  header-refusal = record { asks_nothing = λ k a b m. absurd (not-mem-nil m); same = λ k a r q x y p s. (p ∙ sym s, refl) };
  held-refusal = record { asks_nothing = λ k a b m. absurd (not-mem-nil m); same = λ k a r q x y p s. (p ∙ sym s, refl) };
  open-refusal = record { asks_nothing = λ k a b m. absurd (not-mem-nil m); same = λ k a r q x y p s. (p ∙ sym s, refl) };
  pair-right = given (λ k a. tt) _ (λ k a r x p. p);
  held = given (λ k a. tt) _ (λ k a r x p. p);
  open-blob = given (λ k a. tt) _ (λ k a r x p. p);
  read-header = given (λ k a. tt) _ (λ k a r x p. p);
  runs-refusal = record { asks_nothing = λ k a b m. absurd (not-mem-nil m); same = λ k a r q x y p s. (p ∙ sym s, refl) };
  marked-runs = record { asks_nothing = λ k a b m. absurd (not-mem-nil m); same = λ k a r q x y p s. (p ∙ sym s, refl) };
  runs-found-refusal = record { asks_nothing = λ k a b m. absurd (not-mem-nil m); same = λ k a r q x y p s. (p ∙ sym s, refl) };
  marked-runs-found = record { asks_nothing = λ k a b m. absurd (not-mem-nil m); same = λ k a r q x y p s. (p ∙ sym s, refl) };
  is-valid = given (λ k a. tt) _ (λ k a r x p. p);
  count-valid = given (λ k a. tt) _ (λ k a r x p. p);
  checksum = given (λ k a. tt) _ (λ k a r x p. p);
  count-from = given (λ k a. tt) _ (λ k a r x p. p);
  ones-word = given (λ k a. tt) _ (λ k a r x p. p);
  decode-mask = record { asks_nothing = λ k a. tt; same = λ k a r q x y p s. unrolled-same p s };
  compare-runs = record { asks_nothing = λ k a. tt; same = λ k a r q x y p s. (runs-compared-same p s, refl) };
  byte-from = given (λ k a. tt) _ (λ k a r x p. p);
  mask-refusal = record { asks_nothing = λ k a b m. absurd (not-mem-nil m); same = λ k a r q x y p s. (p ∙ sym s, refl) };
  marked-mask = record { asks_nothing = λ k a b m. absurd (not-mem-nil m); same = λ k a r q x y p s. (p ∙ sym s, refl) };
  mask-found-refusal = record { asks_nothing = λ k a b m. absurd (not-mem-nil m); same = λ k a r q x y p s. (p ∙ sym s, refl) };
  marked-mask-found = record { asks_nothing = λ k a b m. absurd (not-mem-nil m); same = λ k a r q x y p s. (p ∙ sym s, refl) };
  ranges-refusal = record { asks_nothing = λ k a b m. absurd (not-mem-nil m); same = λ k a r q x y p s. (p ∙ sym s, refl) };
  pairs-refusal = record { asks_nothing = λ k a b m. absurd (not-mem-nil m); same = λ k a r q x y p s. (p ∙ sym s, refl) };
  constants-refusal = record { asks_nothing = λ k a b m. absurd (not-mem-nil m); same = λ k a r q x y p s. (p ∙ sym s, refl) };
  prepare-mask = record { asks_nothing = λ k a. tt; same = λ k a r q x y p s. prepared-same p s };
  find-mask = record { asks_nothing = λ k a. tt; same = λ k a r q x y p s. prepared-same p s };
  compare-mask = record { asks_nothing = λ k a. tt; same = λ k a r q x y p s. (compared_same p s, refl) };
  mask-in-force = record { asks_nothing = λ k a. tt; same = λ k a r q x y p s. (pair_same (p.0 ∙ sym s.0) (p.1 ∙ sym s.1), refl) };
  pairs = given (λ k a. tt) _ (λ k a r x p. p);
  ranges_in = given (λ k a. tt) _ (λ k a r x p. p);
  read-ranges = given (λ k a. tt) _ (λ k a r x p. p);
  convert = given (λ k a. tt) _ (λ k a r x p. p);
  block-refusal = record { asks_nothing = λ k a b m. absurd (not-mem-nil m); same = λ k a r q x y p s. (p ∙ sym s, refl) };
  marked-block = record { asks_nothing = λ k a b m. absurd (not-mem-nil m); same = λ k a r q x y p s. (p ∙ sym s, refl) };
  block-plan-refusal = record { asks_nothing = λ k a b m. absurd (not-mem-nil m); same = λ k a r q x y p s. (p ∙ sym s, refl) };
  marked-block-plan = record { asks_nothing = λ k a b m. absurd (not-mem-nil m); same = λ k a r q x y p s. (p ∙ sym s, refl) };
  block-plan-end = given (λ k a. tt) _ (λ k a r x p. p);
  inspect-block = given (λ k a. tt) _ (λ k a r x p. p);
  block-end = given (λ k a. tt) _ (λ k a r x p. p);
  read-block = record { asks_nothing = λ k a. tt; same = λ k a r q x y p s. block-read-same p s };
  check-block = given (λ k a. tt) _ (λ k a r x p. p);
  way-refusal = record { asks_nothing = λ k a b m. absurd (not-mem-nil m); same = λ k a r q x y p s. (p ∙ sym s, refl) };
  read-sweep = given (λ k a. tt) _ (λ k a r x p. p);
  walk-refusal = record { asks_nothing = λ k a b m. absurd (not-mem-nil m); same = λ k a r q x y p s. (p ∙ sym s, refl) };
  fill-refusal = record { asks_nothing = λ k a b m. absurd (not-mem-nil m); same = λ k a r q x y p s. (p ∙ sym s, refl) };
  walk = record { asks_nothing = λ k a. tt; same = λ k a r q x y p s. walked_same p s };
  fill = record { asks_nothing = λ k a. tt; same = λ k a r q x y p s. filled-same p s };
  check-tiles = given (λ k a. tt) _ (λ k a r x p. p);
  check-own-tiles = given (λ k a. tt) _ (λ k a r x p. p);
  list-tiles = record { asks_nothing = λ k a. tt; same = λ k a r q x y p s. (refl, p ∙ sym s) };
  are-listed = given (λ k a. tt) _ (λ k a r x p. p);
  fill-tiles = record { asks_nothing = λ k a. tt; same = λ k a r q x y p s. (refl, p ∙ sym s) };
  write-tiles = record { asks_nothing = λ k a. tt; same = λ k a r q x y p s. (refl, rw (p.0, p.1, s.0, s.1)) };
  decode-tiles = record { asks_nothing = λ k a. tt; same = λ k a r q x y p s. tiled-same p s };
  end-refusal = record { asks_nothing = λ k a b m. absurd (not-mem-nil m); same = λ k a r q x y p s. (p ∙ sym s, refl) };
  marked-end = record { asks_nothing = λ k a b m. absurd (not-mem-nil m); same = λ k a r q x y p s. (p ∙ sym s, refl) };
  check-huffman = given (λ k a. tt) _ (λ k a r x p. p);
  write-huffman = record { asks_nothing = λ k a. tt; same = λ k a r q x y p s. (refl, p ∙ sym s) };
  fill-each = record { asks_nothing = λ k a. tt; same = λ k a r q x y p s. (p.says ∙ sym s.says, p.image ∙ sym s.image) };
  stage-refusal = record { asks_nothing = λ k a b m. absurd (not-mem-nil m); same = λ k a r q x y p s. (p ∙ sym s, refl) };
  publish-refusal = record { asks_nothing = λ k a b m. absurd (not-mem-nil m); same = λ k a r q x y p s. (p ∙ sym s, refl) };
  read-refusal = record { asks_nothing = λ k a b m. absurd (not-mem-nil m); same = λ k a r q x y p s. (p ∙ sym s, refl) };
  put-line = record { asks_nothing = λ k a. tt; same = λ k a r q x y p s. put_same p s };
  put-refusal = record { asks_nothing = λ k a. tt; same = λ k a r q x y p s. put_same p s };
  put-shape = record { asks_nothing = λ k a. tt; same = λ k a r q x y p s. put_same p s };
  put-cells = record { asks_nothing = λ k a. tt; same = λ k a r q x y p s. put_same p s };
  stage = record { asks_nothing = λ k a. tt; same = λ k a r q x y p s. staged-same p s };
  publish = record { asks_nothing = λ k a. tt; same = λ k a r q x y p s. published-same p s };
  read = record { asks_nothing = λ k a. tt; same = λ k a r q x y p s. whole_same p s };
  quad = given (λ k a. tt) _ (λ k a r x p. p);
  fields = given (λ k a. tt) _ (λ k a r x p. p);
}
