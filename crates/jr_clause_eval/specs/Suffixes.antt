-- What suffixes make of the value of what stands before them.
use Rattle.std.specs.Prelude.{List, [], ◌∷◌}
use Rattle.jr_base.specs.declared.value.Value.{Value}
use Rattle.jr_program.specs.declared.words.Mode.{Mode}
use Rattle.jr_program.specs.ClauseViews.{Suffix, Field, Element, Length}
use Rattle.jr_meaning.specs.Worth.{Worth, Has, with_value, Setting, in_slot, element_of, length_of, worth}
use Rattle.jr_clause_eval.specs.ClassObjects.{HasClassObjects}

abbrev pub suffix_worth : Mode → Setting → Suffix → Value → Worth
suffix_worth mode s (Field f slot) value = in_slot s.heap value slot
suffix_worth mode s (Element index) value = with_value (worth mode s index) (λ i. element_of s.heap value i)
suffix_worth mode s Length value = length_of s.heap value

-- of several, from left to right
abbrev pub suffixes_worth : Mode → Setting → List Suffix → Value → Worth
suffixes_worth mode s [] value = Has value
suffixes_worth mode s (suffix ∷ suffixes) value = with_value (suffix_worth mode s suffix value) (suffixes_worth mode s suffixes)

abbrev pub SuffixHasClassObjects : Suffix → Type 0
SuffixHasClassObjects (Field f slot) = Unit {0}
SuffixHasClassObjects (Element index) = HasClassObjects index
SuffixHasClassObjects Length = Unit {0}

abbrev pub SuffixesHaveClassObjects : List Suffix → Type 0
SuffixesHaveClassObjects [] = Unit {0}
SuffixesHaveClassObjects (suffix ∷ suffixes) = SuffixHasClassObjects suffix × SuffixesHaveClassObjects suffixes
