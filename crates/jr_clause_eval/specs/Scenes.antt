-- What expressions are judged on, as the definitions have it.
use Rattle.std.specs.Prelude.{ℤ, Bool, cond, List, [], ◌∷◌}
use Rattle.std.specs.List.{list_any}
use Rattle.jr_base.specs.declared.number.ObjId.{ObjId}
use Rattle.jr_base.specs.declared.value.Env.{Env}
use Rattle.jr_meaning.specs.Heap.{Heap}
use Rattle.jr_meaning.specs.World.{same_object}
use Rattle.jr_meaning.specs.Worth.{Environment, Setting}
use Rattle.jr_clause_eval.specs.Shown.{Shown}
use Rattle.jr_clause_eval.specs.declared.scene.Scene.{Scene}
use Rattle.jr_clause_eval.specs.declared.scene.Bindings.{Bindings}
use Rattle.jr_clause_eval.specs.declared.scene.Bindings.TheOpen.{Bindings-F}
use Rattle.jr_clause_eval.specs.declared.scene.Bindings.TheOpen as layer
use Rattle.jr_clause_eval.specs.declared.scene.Bindings.TheFolds.{fold-Bindings}

abbrev pub environment_of : Env → Environment
environment_of env = record { this = env.this; variables = env.values.items; result = env.result; entered = env.entered }

-- the objects owned
abbrev pub owned_in : List ObjId → ObjId → Bool
owned_in locks object = list_any (same_object object) locks

-- on which heap an expression is read
abbrev pub heap_read : Bool → Shown → Heap
heap_read is_old shown = cond is_old shown.old shown.now

-- what a clause is judged on, outside quantifiers
abbrev pub setting_of : Env → List ObjId → Shown → Setting
setting_of env locks shown = record {
  environment = environment_of env;
  heap = shown.now;
  old = shown.old;
  owned = owned_in locks;
  bound = [];
}

-- the numbers bound, the innermost quantifier's first
abbrev pub bindings_layer : Bindings-F (List ℤ) → List ℤ
bindings_layer layer.None = []
bindings_layer (layer.Inner i outer) = i ∷ outer.now

abbrev pub bindings : Bindings → List ℤ
bindings = fold-Bindings (List ℤ) bindings_layer

-- the heap that is read in a scene
abbrev pub heap_of : Scene → Shown → Heap
heap_of scene shown = heap_read scene.is_old shown

-- the setting that a scene and two heaps make
abbrev pub setting_in : Scene → Shown → Setting
setting_in scene shown = record {
  environment = environment_of scene.env.now;
  heap = heap_of scene shown;
  old = shown.old;
  owned = owned_in scene.locks.now;
  bound = bindings scene.bound.now;
}
