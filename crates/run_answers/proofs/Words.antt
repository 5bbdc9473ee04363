-- The units and graphs of the words are those of their files.
use Rattle.std.proofs.Common.{◌≡◌, ℕ, zero, suc, Bool, true, false, ◌||◌, List, [], ◌∷◌, Some, None, refl, sym, ap, ◌∙◌, subst, arith}
use Rattle.std.specs.Prelude.{slice_get, if◌then◌else◌}
use Rattle.std.specs.List.{All}
use Rattle.std.specs.Str.{bytes_eq}
use Rattle.std.proofs.lemmas.Bool.{both_ways}
use Rattle.std.proofs.lemmas.Option.{none-some, same_Some, slice_get_within}
use Rattle.std.proofs.lemmas.Slice.Eq.{bytes_eq-Decides}
use Rattle.list_laws.proofs.Each.{all_from}
use Rattle.orc_ids.specs.declared.ids.UnitName.{UnitName}
use Rattle.orc_ids.specs.declared.ids.UnitName.TheVariants.{Object}
use Rattle.link_model.specs.Sound.{Sound, OffersDiffer}
use Rattle.link_model.specs.declared.graph.GPlace.{GPlace}
use Rattle.link_model.specs.declared.graph.GPlace.TheVariants as place
use Rattle.link_model.specs.declared.graph.GSym.{GSym}
use Rattle.link_model.specs.declared.graph.LinkGraph.{LinkGraph}
use Rattle.session_model.specs.Meaning.{Meaning}
use Rattle.session_units.specs.Meaning.{graph_meaning}
use Rattle.closure_laws.proofs.Declared.{row_below}
use Rattle.memory_laws.specs.Objects.{AreUnits}
use Rattle.memory_laws.specs.Programs as links
use Rattle.memory_laws.proofs.ProgramMembers.{one_of_all}
use Rattle.object_files.specs.Files as files
use Rattle.object_files.specs.Files.{AreLoaded, Told, distinct, distinct_after, is_among}
use Rattle.run_answers.specs.Sessions.{AreOfWords, IsFileOf}

-- Each name stands once among the files

-- a name that is among others isn't among the files after them
after_others : (before names : List (List ℕ)) (k : ℕ) (x : List ℕ) → slice_get (distinct_after before names) k ≡ Some x → is_among before x ≡ false
after_others before [] k x e = absurd (none-some x e)
after_others before (name ∷ names) k x e = split (after_others before names k x) (λ j. after_others (name ∷ before) names j x) (is_among before name) refl
  where
    There : List (List ℕ) → ℕ → Type 0
    There others j = slice_get (distinct_after others names) j ≡ Some x

    later : is_among (name ∷ before) x ≡ false → is_among before x ≡ false
    later f = second (bytes_eq x name) (is_among before x) f
      where
        second : (a b : Bool) → (a || b) ≡ false → b ≡ false
        second true b g = absurd (both_ways true g refl)
        second false b g = g

    by_place : ((j : ℕ) → There (name ∷ before) j → is_among (name ∷ before) x ≡ false) → (j : ℕ) → is_among before name ≡ false → slice_get (name ∷ distinct_after (name ∷ before) names) j ≡ Some x → is_among before x ≡ false
    by_place after zero f g = ap (is_among before) (sym (same_Some name x g)) ∙ f
    by_place after (suc j) f g = later (after j g)

    split : (There before k → is_among before x ≡ false) → ((j : ℕ) → There (name ∷ before) j → is_among (name ∷ before) x ≡ false) → (b : Bool) → is_among before name ≡ b → is_among before x ≡ false
    split as_before after true b = as_before (ap (λ c. slice_get (if c then distinct_after before names else name ∷ distinct_after (name ∷ before) names) k) (sym b) ∙ e)
    split as_before after false b = by_place after k b (ap (λ c. slice_get (if c then distinct_after before names else name ∷ distinct_after (name ∷ before) names) k) (sym b) ∙ e)

-- so a name isn't among the files after itself
not_again : {P : Type 0} (before names : List (List ℕ)) (k : ℕ) (x : List ℕ) → slice_get (distinct_after (x ∷ before) names) k ≡ Some x → P
not_again before names k x e = absurd (both_ways true (ap (λ b. b || is_among before x) (sym ((bytes_eq-Decides x x).1 refl)) ∙ after_others (x ∷ before) names k x e) refl)

one_place : (before names : List (List ℕ)) (j k : ℕ) (x : List ℕ) → slice_get (distinct_after before names) j ≡ Some x → slice_get (distinct_after before names) k ≡ Some x → j ≡ k
one_place before [] j k x e f = absurd (none-some x e)
one_place before (name ∷ names) j k x e f = split (one_place before names j k x) (λ i l. one_place (name ∷ before) names i l x) (is_among before name) refl
  where
    There : List (List ℕ) → ℕ → Type 0
    There others i = slice_get (distinct_after others names) i ≡ Some x

    places : ((i l : ℕ) → There (name ∷ before) i → There (name ∷ before) l → i ≡ l) → (i l : ℕ) → slice_get (name ∷ distinct_after (name ∷ before) names) i ≡ Some x → slice_get (name ∷ distinct_after (name ∷ before) names) l ≡ Some x → i ≡ l
    places after zero zero a b = refl
    places after zero (suc l) a b = not_again before names l x (subst (λ n. slice_get (distinct_after (n ∷ before) names) l ≡ Some x) (same_Some name x a) b)
    places after (suc i) zero a b = not_again before names i x (subst (λ n. slice_get (distinct_after (n ∷ before) names) i ≡ Some x) (same_Some name x b) a)
    places after (suc i) (suc l) a b = ap suc (after i l a b)

    split : (There before j → There before k → j ≡ k) → ((i l : ℕ) → There (name ∷ before) i → There (name ∷ before) l → i ≡ l) → (b : Bool) → is_among before name ≡ b → j ≡ k
    split as_before after true b =
        let P : ℕ → Bool → Type 0 = λ i c. slice_get (if c then distinct_after before names else name ∷ distinct_after (name ∷ before) names) i ≡ Some x in
        as_before (subst (P j) b e) (subst (P k) b f)
    split as_before after false b =
        let P : ℕ → Bool → Type 0 = λ i c. slice_get (if c then distinct_after before names else name ∷ distinct_after (name ∷ before) names) i ≡ Some x in
        places after j k (subst (P j) b e) (subst (P k) b f)

pub one_file : (words : List (List ℕ)) (word j k : ℕ) → IsFileOf words word j → IsFileOf words word k → j ≡ k
one_file words word j k a b = one_place [] words j k b.0 (a.2 ∙ ap Some (same_Some a.0 b.0 (sym a.1 ∙ b.1))) b.2

-- What holds of all files holds of all words

pub of_all_words : {X : Type 0} (P : X → Type 0) (words : List (List ℕ)) (of_files of_words : List X) → AreOfWords words of_files of_words → All P of_files → All P of_words
of_all_words P words of_files of_words are all = all_from P of_words (λ k x e. let f = are.each k x e in one_of_all P of_files f.0 x all f.2)

-- The units

-- each is that of its graph
module _ (told : Told) (words names : List (List ℕ)) (file_units units : List Meaning) (loaded : AreLoaded told (distinct words) names file_units) (of_words : AreOfWords words file_units units) where
  plain_file : (k : ℕ) (u : Meaning) → slice_get file_units k ≡ Some u → u.source ≡ None
  plain_file k u e =
      let g = row_below loaded.graphs k (omega (arith, slice_get_within file_units k u e, loaded.count, loaded.whole)) in
      ap (λ (v : Meaning). v.source) (loaded.are k u g.0 e g.1)

  pub plain_units : All (λ (u : Meaning). u.source ≡ None) units
  plain_units = of_all_words (λ (u : Meaning). u.source ≡ None) words file_units units of_words (all_from (λ (u : Meaning). u.source ≡ None) file_units plain_file)

  unit_is : (graphs : List LinkGraph) → AreOfWords words loaded.graphs graphs → (k : ℕ) (unit : Meaning) (g : LinkGraph) → slice_get units k ≡ Some unit → slice_get graphs k ≡ Some g → (name : UnitName) × (unit ≡ graph_meaning name g)
  unit_is graphs are k unit g e f =
      let u = of_words.each k unit e in
      let h = are.each k g f in
      let same = one_file words k h.0 u.0 h.1 u.1 in
      (Object u.0, loaded.are u.0 unit g u.2 (ap (slice_get loaded.graphs) (sym same) ∙ h.2))

  pub are_units : (graphs : List LinkGraph) → AreOfWords words loaded.graphs graphs → AreUnits units graphs
  are_units graphs are = record {
    whole = of_words.count ∙ sym are.count;
    each = unit_is graphs are;
    sound = of_all_words (λ (g : LinkGraph). Sound g) words loaded.graphs graphs are loaded.sound;
    differ = of_all_words (λ (g : LinkGraph). OffersDiffer g) words loaded.graphs graphs are loaded.differ;
  }

  pub have_addresses : (graphs : List LinkGraph) → AreOfWords words loaded.graphs graphs → All links.HasAddresses graphs
  have_addresses graphs are = of_all_words links.HasAddresses words loaded.graphs graphs are (all_from links.HasAddresses loaded.graphs graph_addresses)
    where
      address : (p : GPlace) → files.IsAddress p → links.IsAddress p
      address (place.Abs a) h = h
      address _ h = tt

      graph_addresses : (k : ℕ) (g : LinkGraph) → slice_get loaded.graphs k ≡ Some g → links.HasAddresses g
      graph_addresses k g e = all_from (λ (s : GSym). links.IsAddress s.place) g.symbols
          (λ j s t. address s.place (one_of_all (λ (x : GSym). files.IsAddress x.place) g.symbols j s (one_of_all files.HasAddresses loaded.graphs k g loaded.addresses e) t))
