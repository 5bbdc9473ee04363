-- The raw bytes of a unit, block by block.
use Rattle.std.proofs.Common.{◌≡◌, ℕ, zero, suc, ◌+◌, ◌-◌, ◌<◌, ◌≤◌, ◌⊎◌, inl, inr, List, [], ◌∷◌, ◌++◌, length, map, take, drop, get_or, slice_index, refl, sym, ap, subst, ◌∙◌, arith}
use Rattle.std.specs.Prelude.{zip}
use Rattle.std.proofs.lemmas.List.{get_or-drop, get_or-take, get_or_append_left, get_or-append_right, length-take-le}
use Rattle.std.proofs.lemmas.Bool.{cases_lt}
use Rattle.std.proofs.lemmas.Bool.Decides.{nat_tests}
use Rattle.std.proofs.Math.Seq.{drop-length}
use borrow.Rule.Slice.PartMut.{put_mid, post_of}
use mathlib.Core.Path.{fun_ext}
use Rattle.link_model.specs.Image.{at_or, pieces, raw_byte, stub_bytes}
use Rattle.link_model.specs.declared.graph.Block.{Block}
use Rattle.link_model.specs.declared.graph.Layout.{Layout}
use Rattle.link_model.specs.declared.graph.LinkGraph.{LinkGraph}
use Rattle.link_model.specs.Sound.{Sound}
use Rattle.unit_fixups.specs.Sound.{Lies}
use Rattle.unit_fixups.specs.Tables.{with_piece, stub_pieces}
use Rattle.unit_fixups.proofs.Inside.{at_or-get}

piece_inside : (at : ℕ) (piece : List ℕ) (bytes : ℕ → ℕ) (place : ℕ) → at ≤ place → place < at + length piece → with_piece at piece bytes place ≡ slice_index piece (place - at)
piece_inside at piece bytes place low high = grind (arith, nat_tests)

piece_outside : (at : ℕ) (piece : List ℕ) (bytes : ℕ → ℕ) (place : ℕ) → (place < at) ⊎ (at + length piece ≤ place) → with_piece at piece bytes place ≡ bytes place
piece_outside at piece bytes place outside = grind (arith, nat_tests)

pasted_at : (xs ys : List ℕ) (at k place : ℕ) → at + k ≤ length xs → length ys ≡ k → get_or (put_mid at k xs ys) place 0 ≡ with_piece at ys (slice_index xs) place
pasted_at xs ys at k place inside len =
    elim (cases_lt place at) [
      | inl before ↦
          get_or_append_left (take at xs) (ys ++ post_of at k xs) 0 place (omega (arith, front))
          ∙ get_or-take at xs place 0 before
          ∙ sym (piece_outside at ys (slice_index xs) place (inl before))
      | inr from ↦
          get_or-append_right (take at xs) (ys ++ post_of at k xs) at place 0 front from
          ∙ elim (cases_lt place (at + length ys)) [
            | inl below ↦
                get_or_append_left ys (post_of at k xs) 0 (place - at) (omega arith)
                ∙ sym (piece_inside at ys (slice_index xs) place from below)
            | inr after ↦
                get_or-append_right ys (post_of at k xs) k (place - at) 0 len (omega arith)
                ∙ get_or-drop k (drop at xs) (place - at - k) 0
                ∙ get_or-drop at xs (k + (place - at - k)) 0
                ∙ ap (λ (x : ℕ). get_or xs x 0) (omega arith)
                ∙ sym (piece_outside at ys (slice_index xs) place (inr after))
          ]
    ]
  where
    front : length (take at xs) ≡ at
    front = length-take-le at xs (omega arith)

-- a slice of which a part was copied from another
pub pasted : (xs ys : List ℕ) (at k : ℕ) → at + k ≤ length xs → length ys ≡ k → slice_index (put_mid at k xs ys) ≡ with_piece at ys (slice_index xs)
pasted xs ys at k inside len = fun_ext (λ (place : ℕ). pasted_at xs ys at k place inside len)

-- bytes that were copied to a place of a slice
pub pasted_bytes : (image bytes new : List ℕ) (at : ℕ) → at + length bytes ≤ length image → new ≡ bytes → slice_index (put_mid at (at + length bytes - at) image new) ≡ with_piece at bytes (slice_index image)
pasted_bytes image bytes new at inside copied =
    pasted image new at (at + length bytes - at) (omega (arith, inside)) (omega (arith, ap (λ (xs : List ℕ). length xs) copied))
    ∙ ap (λ (xs : List ℕ). with_piece at xs (slice_index image)) copied

-- the bytes and the size of a block that is read
bytes_at : (bs : List Block) (k : ℕ) (b : Block) → k < length bs → b ≡ get_or bs k b → at_or [] (map (λ (x : Block). x.bytes) bs) k ≡ b.bytes
bytes_at [] k b within e = absurd (omega arith)
bytes_at (x ∷ bs) zero b within e = ap (λ (y : Block). y.bytes) (sym e)
bytes_at (x ∷ bs) (suc k) b within e = bytes_at bs k b (omega arith) e

size_at : (bs : List Block) (k : ℕ) (b : Block) → k < length bs → b ≡ get_or bs k b → at_or 0 (map (λ (x : Block). x.size) bs) k ≡ b.size
size_at [] k b within e = absurd (omega arith)
size_at (x ∷ bs) zero b within e = ap (λ (y : Block). y.size) (sym e)
size_at (x ∷ bs) (suc k) b within e = size_at bs k b (omega arith) e

bytes_fit : (g : LinkGraph) (k : ℕ) (b : Block) → Sound g → k < length g.blocks → b ≡ get_or g.blocks k b → length b.bytes ≤ b.size
bytes_fit g k b sound within e = subst (λ (x : Block). length x.bytes ≤ x.size) (sym e) (sound.bytes k b within)

-- the bytes of a block lie inside what the unit needs
pub block_fits : (g : LinkGraph) (l : Layout) (base k : ℕ) (b : Block) (bs : List Block) (os bytes : List ℕ) → Lies g l base → k < length g.blocks → os ≡ l.blocks → bs ≡ g.blocks → b ≡ get_or bs k b → bytes ≡ b.bytes → get_or os k 0 + length bytes ≤ l.shape.need
block_fits g l base k b bs os bytes lies within e e' is e'' =
    let here : b ≡ get_or g.blocks k b = is ∙ ap (λ (x : List Block). get_or x k b) e' in
    let size = size_at g.blocks k b within here in
    let fit = bytes_fit g k b lies.sound within here in
    let offset : get_or os k 0 ≡ at_or 0 l.blocks k = ap (λ (x : List ℕ). get_or x k 0) e ∙ sym (at_or-get 0 l.blocks k) in
    let inside = lies.inside k within in
    let count = ap (λ (x : List ℕ). length x) e'' in
    omega (arith, size, fit, offset, inside, count)

-- what a copy of a block's bytes leaves
pub block_copied : (g : LinkGraph) (l : Layout) (k : ℕ) (b : Block) (bs : List Block) (os bytes : List ℕ) (old new : ℕ → ℕ) → k < length g.blocks → os ≡ l.blocks → bs ≡ g.blocks → b ≡ get_or bs k b → bytes ≡ b.bytes → new ≡ with_piece (get_or os k 0) bytes old → new ≡ with_piece (at_or 0 l.blocks k) (at_or [] (map (λ (x : Block). x.bytes) g.blocks) k) old
block_copied g l k b bs os bytes old new within e e' is e'' copied =
    let here : b ≡ get_or g.blocks k b = is ∙ ap (λ (x : List Block). get_or x k b) e' in
    let offset : get_or os k 0 ≡ at_or 0 l.blocks k = ap (λ (x : List ℕ). get_or x k 0) e ∙ sym (at_or-get 0 l.blocks k) in
    copied
    ∙ ap (λ (at : ℕ). with_piece at bytes old) offset
    ∙ ap (λ (xs : List ℕ). with_piece (at_or 0 l.blocks k) xs old) (e'' ∙ sym (bytes_at g.blocks k b within here))

-- the blocks from one on, and the stubs
abbrev pub from : LinkGraph → Layout → ℕ → List (ℕ × List ℕ)
from g l k = zip (drop k l.blocks) (map (λ (b : Block). b.bytes) (drop k g.blocks)) ++ stub_pieces l.stubs

from_zip : (os : List ℕ) (bs : List Block) (tail : List (ℕ × List ℕ)) (k : ℕ) → k < length os → k < length bs → raw_byte (zip (drop k os) (map (λ (b : Block). b.bytes) (drop k bs)) ++ tail) ≡ with_piece (at_or 0 os k) (at_or [] (map (λ (b : Block). b.bytes) bs) k) (raw_byte (zip (drop (suc k) os) (map (λ (b : Block). b.bytes) (drop (suc k) bs)) ++ tail))
from_zip [] bs tail k p q = absurd (omega arith)
from_zip (o ∷ os) [] tail k p q = absurd (omega arith)
from_zip (o ∷ os) (b ∷ bs) tail zero p q = fun_ext (λ (place : ℕ). refl)
from_zip (o ∷ os) (b ∷ bs) tail (suc k) p q = from_zip os bs tail k (omega arith) (omega arith)

-- one more block before those that were copied
pub from_step : (g : LinkGraph) (l : Layout) (k n : ℕ) (old new : ℕ → ℕ) → length l.blocks ≡ length g.blocks → n ≡ suc k → k < length g.blocks → new ≡ with_piece (at_or 0 l.blocks k) (at_or [] (map (λ (b : Block). b.bytes) g.blocks) k) old → old ≡ raw_byte (from g l n) → new ≡ raw_byte (from g l k)
from_step g l k n old new count next within written e =
    written
    ∙ ap (with_piece (at_or 0 l.blocks k) (at_or [] (map (λ (b : Block). b.bytes) g.blocks) k)) (e ∙ ap (λ (x : ℕ). raw_byte (from g l x)) next)
    ∙ sym (from_zip l.blocks g.blocks (stub_pieces l.stubs) k (omega arith) within)

none_left : (os : List ℕ) (tail : List (ℕ × List ℕ)) → raw_byte tail ≡ raw_byte (zip os [] ++ tail)
none_left [] tail = refl
none_left (o ∷ os) tail = refl

-- none was copied
pub from_end : (g : LinkGraph) (l : Layout) (n : ℕ) (image : ℕ → ℕ) → n ≡ length g.blocks → image ≡ raw_byte (stub_pieces l.stubs) → image ≡ raw_byte (from g l n)
from_end g l n image e h =
    h ∙ none_left (drop n l.blocks) (stub_pieces l.stubs)
    ∙ ap (λ (bs : List Block). raw_byte (zip (drop n l.blocks) (map (λ (b : Block). b.bytes) bs) ++ stub_pieces l.stubs))
    (sym (ap (λ (x : ℕ). drop x g.blocks) e ∙ drop-length g.blocks))

-- all were copied
pub from_start : (g : LinkGraph) (l : Layout) (n : ℕ) → n ≡ 0 → raw_byte (from g l n) ≡ raw_byte (pieces g l)
from_start g l n e = ap (λ (x : ℕ). raw_byte (from g l x)) e

-- ---- the stubs' words
stub_step : (stubs : List (ℕ × ℕ)) (k : ℕ) (d : ℕ × ℕ) → k < length stubs → raw_byte (stub_pieces (drop k stubs)) ≡ with_piece (get_or stubs k d).1 stub_bytes (raw_byte (stub_pieces (drop (suc k) stubs)))
stub_step [] k d lt = absurd (omega arith)
stub_step (p ∷ ps) zero d lt = fun_ext (λ (place : ℕ). refl)
stub_step (p ∷ ps) (suc k) d lt = stub_step ps k d (omega arith)

-- one more stub before those that were copied
pub stub_copied : (stubs : List (ℕ × ℕ)) (k n : ℕ) (d : ℕ × ℕ) (words : List ℕ) (old new : ℕ → ℕ) → k < length stubs → n ≡ suc k → words ≡ stub_bytes → new ≡ with_piece (get_or stubs k d).1 words old → old ≡ raw_byte (stub_pieces (drop n stubs)) → new ≡ raw_byte (stub_pieces (drop k stubs))
stub_copied stubs k n d words old new lt next are copied e =
    copied
    ∙ ap (λ (xs : List ℕ). with_piece (get_or stubs k d).1 xs old) are
    ∙ ap (with_piece (get_or stubs k d).1 stub_bytes) (e ∙ ap (λ (x : ℕ). raw_byte (stub_pieces (drop x stubs))) next)
    ∙ sym (stub_step stubs k d lt)

pub no_stubs_yet : (stubs : List (ℕ × ℕ)) (n : ℕ) (zeros : ℕ → ℕ) → n ≡ length stubs → ((k : ℕ) → zeros k ≡ 0) → zeros ≡ raw_byte (stub_pieces (drop n stubs))
no_stubs_yet stubs n zeros e h =
    fun_ext (λ (k : ℕ). h k)
    ∙ ap (λ (ps : List (ℕ × ℕ)). raw_byte (stub_pieces ps)) (sym (ap (λ (x : ℕ). drop x stubs) e ∙ drop-length stubs))
