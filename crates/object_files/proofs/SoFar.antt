-- The files that were taken in so far: none at first, one more with each file, and all in the end.
use Rattle.std.proofs.Common.{◌≡◌, ℕ, ◌+◌, ◌≤◌, List, [], ◌∷◌, ◌++◌, length, map, Some, refl, sym, ap, subst, ◌∙◌, inl, inr, arith}
use Rattle.std.specs.Prelude.{slice_get, Result, Ok, Err, IfErr}
use Rattle.std.specs.List.{All}
use Rattle.std.proofs.lemmas.List.{length-append, length-map, map-append}
use Rattle.std.proofs.lemmas.List.Elements.{All-nil, All-push}
use Rattle.std.proofs.lemmas.List.Sums.{sum_by_push}
use Rattle.std.proofs.lemmas.Option.{none-some, same_Some, slice_get_within}
use Rattle.orc_ids.specs.declared.ids.UnitName.TheVariants.{Object}
use Rattle.orc_io.specs.Causes.{Rose}
use Rattle.orc_io.specs.Contents.{HasContent}
use Rattle.orc_io.specs.declared.limits.TheConstants.{FILE_LIMIT}
use Rattle.link_model.specs.Sound.{Sound, OffersDiffer}
use Rattle.link_model.specs.declared.graph.LinkGraph.{LinkGraph}
use Rattle.session_model.specs.Meaning.{Meaning}
use Rattle.session_units.specs.Meaning.{graph_meaning}
use Rattle.session_units.specs.Units.{meaning_of}
use Rattle.session_units.specs.declared.unit.ObjectUnit.{ObjectUnit}
use Rattle.object_files.specs.Files.{Told, total, HasAddresses, IsObject, AreRead, AreLoaded, HasStopped, InReading, InLength, InTotal, InObject, Wanting}
use Rattle.object_files.specs.Steps.{IsNext, IsTaken, IsStoppedAt, IsTooLong}
use Rattle.object_files.specs.declared.error.LoadError.{LoadError}
use Rattle.object_files.specs.declared.error.LoadError.TheVariants.{Fault, TooLong, Refused, NoMemory}
use Rattle.object_files.specs.declared.load.TheConstants.{TOTAL_LIMIT}
use Rattle.object_files.proofs.LaterTables.{object_kept}
use Rattle.orc_names.specs.Numbers.{KeepsNumbers}
use Rattle.object_files.proofs.Snoc.{each_snoc, both_snoc}

-- the first files were taken in: so many, with so many bytes, and these are their units by a table
pub record AreSoFar (told : Told) (files names : List (List ℕ)) (units : List Meaning) (count size : ℕ) : Type 0 where
  pub contents : List (List ℕ)
  pub graphs : List LinkGraph
  pub read : AreRead told files contents
  pub bytes : total contents ≡ size
  pub all : length contents ≡ count
  pub whole : length graphs ≡ count
  pub count_is : length units ≡ count
  pub objects : (k : ℕ) (bytes : List ℕ) (g : LinkGraph) → slice_get contents k ≡ Some bytes → slice_get graphs k ≡ Some g → IsObject names bytes g
  pub are : (k : ℕ) (unit : Meaning) (g : LinkGraph) → slice_get units k ≡ Some unit → slice_get graphs k ≡ Some g → unit ≡ graph_meaning (Object k) g
  pub sound : All (λ g. Sound g) graphs
  pub differ : All (λ g. OffersDiffer g) graphs
  pub addresses : All HasAddresses graphs

-- ---- none

none_read : (told : Told) (files : List (List ℕ)) → AreRead told files []
none_read told files = record {
  few = omega arith;
  told_so = λ k name bytes there here. absurd (none-some bytes here);
  short = All-nil (λ (bytes : List ℕ). length bytes ≤ FILE_LIMIT);
  within = omega arith;
  objects = λ k bytes here. absurd (none-some bytes here);
}

pub none_so_far : (told : Told) (files names : List (List ℕ)) → AreSoFar told files names [] 0 0
none_so_far told files names = record {
  contents = [];
  graphs = [];
  read = none_read told files;
  bytes = refl;
  all = refl;
  whole = refl;
  count_is = refl;
  objects = λ k bytes g here there. absurd (none-some bytes here);
  are = λ k unit g here there. absurd (none-some unit here);
  sound = All-nil (λ g. Sound g);
  differ = All-nil (λ g. OffersDiffer g);
  addresses = All-nil HasAddresses;
}

-- ---- one more

one_longer : {X : Type 0} (xs : List X) (x : X) (n : ℕ) → length xs ≡ n → length (xs ++ x ∷ []) ≡ n + 1
one_longer xs x n h = length-append xs (x ∷ []) ∙ ap (λ m. m + 1) h

one_total : (contents : List (List ℕ)) (bytes : List ℕ) (before size : ℕ) → total contents ≡ before → size ≡ length bytes → total (contents ++ bytes ∷ []) ≡ before + size
one_total contents bytes before size h is = sum_by_push (λ (b : List ℕ). length b) contents bytes ∙ (ap (λ m. m + length bytes) h ∙ ap (λ m. before + m) (sym is))

one_more_read : (told : Told) (files names : List (List ℕ)) (contents : List (List ℕ)) (name bytes : List ℕ) (g : LinkGraph) → AreRead told files contents → slice_get files (length contents) ≡ Some name → IsNext told (total contents) name bytes → IsObject names bytes g → AreRead told files (contents ++ bytes ∷ [])
one_more_read told files names contents name bytes g read here next object = record {
  few = let lt = slice_get_within files (length contents) name here in omega (arith, one_longer contents bytes (length contents) refl, lt);
  told_so = λ k other content there at. each_snoc (λ k content. (other : List ℕ) → slice_get files k ≡ Some other → HasContent told other content) contents bytes
      (λ k content at other there. read.told_so k other content there at)
      (λ other there. subst (λ (x : List ℕ). HasContent told x bytes) (same_Some name other (sym here ∙ there)) next.content)
      k content at other there;
  short = All-push (λ (b : List ℕ). length b ≤ FILE_LIMIT) contents bytes read.short next.short;
  within = omega (arith, one_total contents bytes (total contents) (length bytes) refl refl, next.within);
  objects = each_snoc (λ k content. (names : List (List ℕ)) × (g : LinkGraph) × IsObject names content g) contents bytes read.objects (names, g, object);
}

pub one_more : (told : Told) (files old new : List (List ℕ)) (units : List Meaning) (count before : ℕ) (name : List ℕ) (unit : Meaning) (size : ℕ) → AreSoFar told files old units count before → KeepsNumbers old new → slice_get files count ≡ Some name →
    IsTaken told new count before name unit size → AreSoFar told files new (units ++ unit ∷ []) (count + 1) (before + size)
one_more told files old new units count before name unit size so keeps here taken =
    let made = taken.unit_is.made in
    let graph : LinkGraph = taken.unit_is.graph in
    record {
      contents = so.contents ++ taken.bytes ∷ [];
      graphs = so.graphs ++ graph ∷ [];
      read = one_more_read told files new so.contents name taken.bytes graph so.read
          (subst (λ (n : ℕ). slice_get files n ≡ Some name) (sym so.all) here)
          (subst (λ (n : ℕ). IsNext told n name taken.bytes) (sym so.bytes) taken.next)
          made.object;
      bytes = one_total so.contents taken.bytes before size so.bytes taken.size_is;
      all = one_longer so.contents taken.bytes count so.all;
      whole = one_longer so.graphs graph count so.whole;
      count_is = one_longer units unit count so.count_is;
      objects = both_snoc (λ k bytes g. IsObject new bytes g) so.contents so.graphs taken.bytes graph (so.all ∙ sym so.whole)
          (λ k bytes g first second. object_kept old new bytes g keeps (so.objects k bytes g first second))
          made.object;
      are = both_snoc (λ k u g. u ≡ graph_meaning (Object k) g) units so.graphs unit graph (so.count_is ∙ sym so.whole) so.are
          (subst (λ (n : ℕ). unit ≡ graph_meaning (Object n) graph) (sym so.count_is) taken.unit_is.is);
      sound = All-push (λ g. Sound g) so.graphs graph so.sound made.sound;
      differ = All-push (λ g. OffersDiffer g) so.graphs graph so.differ made.differ;
      addresses = All-push HasAddresses so.graphs graph so.addresses made.addresses;
    }

-- ---- all

pub all_loaded : (told : Told) (files names : List (List ℕ)) (units : List Meaning) (count size : ℕ) → AreSoFar told files names units count size → count ≡ length files → AreLoaded told files names units
all_loaded told files names units count size so is = record {
  contents = so.contents;
  read = so.read;
  all = so.all ∙ is;
  graphs = so.graphs;
  whole = so.whole ∙ is;
  objects = so.objects;
  count = so.count_is ∙ is;
  are = so.are;
  sound = so.sound;
  differ = so.differ;
  addresses = so.addresses;
}

-- ---- a file that stops the load

rose_from : (first before after : ℕ) → first ≤ before → Rose before after → Rose first after
rose_from first before after le h = omega arith

too_long_at : (told : Told) (files contents : List (List ℕ)) (first after k : ℕ) (name : List ℕ) → AreRead told files contents → length contents ≡ k → slice_get files k ≡ Some name → IsTooLong told (total contents) name → HasStopped told first after files (TooLong k)
too_long_at told files contents first after k name read is here (inl longer) = InLength k contents name read is here longer
too_long_at told files contents first after k name read is here (inr over) = InTotal k contents name over.0 read is here over.1 over.2 over.3

pub stopped_at : (told : Told) (files names : List (List ℕ)) (units : List Meaning) (first before after count size : ℕ) (name : List ℕ) (e : LoadError) → AreSoFar told files names units count size → slice_get files count ≡ Some name → first ≤ before →
    IsStoppedAt told before after count size name e → HasStopped told first after files e
stopped_at told files names units first before after count size name (Fault k) so here le h =
    InReading k so.contents so.read (so.all ∙ sym h.0) (let lt = slice_get_within files count name here in omega (arith, h.0, lt)) (rose_from first before after le h.1)
stopped_at told files names units first before after count size name (TooLong k) so here le h =
    too_long_at told files so.contents first after k name so.read (so.all ∙ sym h.0) (subst (λ (n : ℕ). slice_get files n ≡ Some name) (sym h.0) here) (subst (λ (n : ℕ). IsTooLong told n name) (sym so.bytes) h.1)
stopped_at told files names units first before after count size name (Refused k why) so here le h =
    let next = h.1.1 in
    InObject k so.contents name h.1.0 why so.read (so.all ∙ sym h.0) (subst (λ (n : ℕ). slice_get files n ≡ Some name) (sym h.0) here) next.content next.short
    (subst (λ (n : ℕ). n + length h.1.0 ≤ TOTAL_LIMIT) (sym so.bytes) next.within) h.1.2
stopped_at told files names units first before after count size name NoMemory so here le h = Wanting

-- want of memory stops it anywhere
pub memory_stops : {X : Type 0} (told : Told) (before after : ℕ) (files : List (List ℕ)) (r : Result X LoadError) → IfErr r (λ e. e ≡ NoMemory) → IfErr r (λ e. HasStopped told before after files e)
memory_stops told before after files (Ok x) h = tt
memory_stops told before after files (Err e) h = subst (λ (e : LoadError). HasStopped told before after files e) (sym h) Wanting

-- an answer that the next file stops the load, whose number is the count of those before it
pub next_stops : {X : Type 0} (told now : Told) (files names : List (List ℕ)) (units : List Meaning) (first before after count number size : ℕ) (name : List ℕ) (r : Result X LoadError) → AreSoFar told files names units count size → now ≡ told → number ≡ count →
    slice_get files count ≡ Some name → first ≤ before → IfErr r (λ e. IsStoppedAt now before after number size name e) → IfErr r (λ e. HasStopped told first after files e)
next_stops told now files names units first before after count number size name (Ok x) so same is here le h = tt
next_stops told now files names units first before after count number size name (Err e) so same is here le h =
    stopped_at told files names units first before after count size name e so here le
    (subst (λ (t : Told). IsStoppedAt t before after count size name e) same (subst (λ (n : ℕ). IsStoppedAt now before after n size name e) is h))

-- ---- the same of a list of units

-- the number of the next file
pub next_number : (told : Told) (files names : List (List ℕ)) (units : List ObjectUnit) (count size number : ℕ) → AreSoFar told files names (map meaning_of units) count size → number ≡ length units → number ≡ count
next_number told files names units count size number so is = is ∙ (sym (length-map units meaning_of) ∙ so.count_is)

pub one_more_unit : (told now : Told) (files old new : List (List ℕ)) (before after : List ObjectUnit) (unit : ObjectUnit) (count number size : ℕ) (name : List ℕ) (len : ℕ) → AreSoFar told files old (map meaning_of before) count size → KeepsNumbers old new →
    now ≡ told → number ≡ count → after ≡ before ++ unit ∷ [] → slice_get files count ≡ Some name → IsTaken now new number size name (meaning_of unit) len → AreSoFar told files new (map meaning_of after) (count + 1) (size + len)
one_more_unit told now files old new before after unit count number size name len so keeps same is grown here taken =
    rw (grown, map-append meaning_of before (unit ∷ []))
    (one_more told files old new (map meaning_of before) count size name (meaning_of unit) len so keeps here
    (subst (λ (t : Told). IsTaken t new count size name (meaning_of unit) len) same (subst (λ (n : ℕ). IsTaken now new n size name (meaning_of unit) len) is taken)))
