-- Every form of code.
use Rattle.std.proofs.Common.{◌≡◌, List, [], ◌∷◌, refl, None, Some, pos, negsuc, codes, true, false}
use Rattle.std.specs.Int.{int_wrap}
use Rattle.jr_base.specs.declared.action.Reply.TheVariants as replies
use Rattle.jr_base.specs.declared.action.LeaveHow.TheVariants as leaves
use Rattle.jr_base.specs.declared.action.EndHow.TheVariants as ends
use Rattle.jr_base.specs.declared.action.Way.TheVariants as ways
use Rattle.jr_base.specs.declared.action.NewKind.TheVariants as kinds
use Rattle.jr_base.specs.declared.action.Elem.TheVariants as elems
use Rattle.jr_base.specs.declared.action.PrintPart.TheVariants.{Text, Val}
use Rattle.jr_base.specs.declared.value.Value.TheVariants as values
use Rattle.jr_base.specs.declared.finish.Fault.TheVariants as faults
use Rattle.jr_base.specs.Deed as deeds
use Rattle.jr_base.specs.declared.kind.SlotKind.TheVariants as kind
use Rattle.jr_arith.specs.declared.operator.Width.TheVariants as width
use Rattle.jr_arith.specs.declared.operator.Unary.TheVariants as unary
use Rattle.jr_arith.specs.declared.operator.Arithmetic.TheVariants as arithmetic
use Rattle.jr_arith.specs.declared.operator.Bitwise.TheVariants as bitwise
use Rattle.jr_arith.specs.declared.operator.Shift.TheVariants as shift
use Rattle.jr_arith.specs.declared.operator.Comparison.TheVariants as compare
use Rattle.jr_arith.specs.declared.operator.Binary.TheVariants as binary
use Rattle.jr_base.specs.declared.kind.ObjectCall.TheVariants as calls
use Rattle.jr_program.specs.declared.words.ClauseKind.TheVariants as clauses
use Rattle.jr_program.specs.declared.words.Mode.TheVariants as modes
use Rattle.jr_program.specs.Clauses as spec
use Rattle.jr_program.specs.Programs.{Program, Number, Truth, Null, This, ClassObject, Read, LengthOf, Unary, Binary, And, Or, Choice, Assign, Compound, PrefixIncrement, PostfixIncrement, ResultOf, NewObject, NewPlain, NewThread, NewArray, Local, StaticField, FieldOf, ElementOf, CallStatic, CallOn, no_more, and_then, Literal, Shown, no_catch, or_catch, Skip, Then, Declare, Evaluate, Invoke, CallObject, Yield, Sleep, Do, If, Loop, DoLoop, Break, Continue, ReturnValue, Throw, ThrowCaught, Try, Synchronized, Println, Assert}
use Rattle.jr_meaning.specs.Next.{Ended}
use Rattle.jr_meaning.specs.Objects.{cell}
use Rattle.jr_meaning.proofs.Guest.{Answered, class, field, method, clause, text, object, guest, does, each_of}

--   class Box {
--     int n;
--     boolean on = true;
--     Object o;
--     static int total = -7;
--     volatile static boolean flag;
--     Box next;
--     int[] a;
--     Box(int n) { this.n = n; a = new int[n]; }
--     synchronized int add(int k) { if (k < 0) throw new IllegalArgumentException("no"); n += k; return n; }
--     static synchronized int twice(int k) { return k * 2; }
--     int fails() { Box b = null; return b.n; }
--   }
--   class Work implements Runnable {
--     Box b;
--     Work(Box b) { this.b = b; }
--     public void run() { b.add(3); throw new InterruptedException("x"); }
--   }
--   class Main {
--     static int count;
--     static int side(int k) { count = count * 10 + k; return k; }
--     static int loops() {
--       int s = 0;
--       for (int i = 0, j = 10; i < 6; i++, --j) {
--         if (i == 1) continue;
--         if (i == 4) break;
--         s += i * j;
--       }
--       int k = 3;
--       do { k--; if (k == 1) continue; s ^= k; } while (k > 0);
--       while (true) {
--         synchronized (Main.class) {
--           Object lock = new Object();
--           synchronized (lock) { if (s > 2) return s; break; }
--         }
--       }
--       return -1;
--     }
--     static void asserts(int x, boolean y) {
--       int z = 5;
--       try { z = z / (x - x); } catch (ArithmeticException e) {
--         Object q = null;
--         //@ assert z == 5 && q == null && x > 0;
--         throw e;
--       }
--     }
--     public static void main(String[] args) {
--       Box b = new Box(2);
--       System.out.println(b.add(4) + Box.twice(b.n));
--       b.n <<= 33; b.n >>= 1; b.n >>>= 0; b.n |= 8; b.n &= ~1; b.n %= 5; b.n -= -3; b.n *= 2; b.n /= 3;
--       System.out.println("n " + b.n + " on " + b.on);
--       System.out.println("" + (-17 / 5) + -17 % 5 + (-17 >>> 28) + (-17 >> 2) + (1 << 31) + (~17 & 12 ^ 3));
--       b.on = !b.on | Box.flag ^ true & b.on;
--       System.out.println(b.on ? side(1) : side(2));
--       try { b.add(-1); } catch (RuntimeException e) { System.out.println("runtime"); }
--       try { b.fails(); } catch (IndexOutOfBoundsException e) { } catch (Exception e) { System.out.println("any"); }
--       try { b.a[side(-1)] = side(7); } catch (ArrayIndexOutOfBoundsException e) { System.out.println(count); }
--       int[] none = null;
--       try { none[side(3)] = side(4); } catch (NullPointerException e) { System.out.println(count); }
--       try { none[side(5)] += side(6); } catch (NullPointerException e) { System.out.println(count); }
--       try { b.next.n = side(8); } catch (NullPointerException e) { System.out.println(count); }
--       try { b.next.add(side(9)); } catch (NullPointerException e) { System.out.println(count); }
--       try { int[] c = new int[side(-2)]; } catch (NegativeArraySizeException e) { System.out.println("size"); }
--       b.a[1]++;
--       System.out.println(b.a[1]-- + ++b.a[0] + b.a.length);
--       Box[] many = new Box[3];
--       many[1] = b;
--       many[many[1].a.length] = many[0] == null ? many[1] : null;
--       System.out.println(many[2] == b);
--       System.out.println(many[2] != many[0] && many[0] == null || side(1) > 0);
--       System.out.println(loops());
--       try { asserts(2, true); } catch (RuntimeException e) { System.out.println("again"); }
--       try { Thread.sleep(1); Thread.yield(); Thread.sleep(-1); } catch (IllegalArgumentException e) { System.out.println("sleep"); }
--       try { b.wait(); } catch (IllegalMonitorStateException e) { System.out.println("wait"); }
--       try { b.notifyAll(); } catch (RuntimeException e) { System.out.println("notify"); }
--       synchronized (b) { b.notify(); b.notifyAll(); }
--       Thread t = new Thread(new Work(b));
--       t.start();
--       try { t.start(); } catch (IllegalThreadStateException e) { System.out.println("start"); }
--       t.join();
--       new Thread(null).start();
--       Object o = Box.class;
--       synchronized (o) { Box.twice(1); }
--       try { synchronized (b) { throw new Exception("e"); } } catch (Exception e) { }
--       boolean u; int v; Box w;
--       System.out.println(u);
--       System.out.println(v == 0 & w == null);
--       Box.total += side(2) * (count = 3);
--       System.out.println(Box.total);
--       for (Box.total = 0; Box.total < 2; Box.total++) if (Box.total == 1) continue;
--       Box late = new Box(side(2));
--       int x = 5;
--       x = x++ + ++x;
--       x += x++ * (x = 2);
--       System.out.println(x);
--       System.out.println(2147483647 + 1);
--       System.out.println(-2147483648 / -1);
--       System.out.println(-(-2147483648) + 70000 * 70000);
--     }
--   }
forms : Program
forms = record {
  classes =
      record { name = []; extends_thread = false; implements_runnable = false; run = None; constructor = (Some (method 0)) }
      ∷ record { name = []; extends_thread = false; implements_runnable = true; run = (Some (method 5)); constructor = (Some (method 4)) }
      ∷ record { name = []; extends_thread = false; implements_runnable = false; run = None; constructor = None }
      ∷ [];
  fields =
      record { class = (class 0); is_static = false; is_volatile = false; kind = kind.Int; constant = (values.Int (pos 0)) }
      ∷ record { class = (class 0); is_static = false; is_volatile = false; kind = kind.Bool; constant = (values.Bool true) }
      ∷ record { class = (class 0); is_static = false; is_volatile = false; kind = kind.Ref; constant = values.Null }
      ∷ record { class = (class 0); is_static = true; is_volatile = false; kind = kind.Int; constant = (values.Int (negsuc 6)) }
      ∷ record { class = (class 0); is_static = true; is_volatile = true; kind = kind.Bool; constant = (values.Bool false) }
      ∷ record { class = (class 0); is_static = false; is_volatile = false; kind = kind.Ref; constant = values.Null }
      ∷ record { class = (class 0); is_static = false; is_volatile = false; kind = kind.Ref; constant = values.Null }
      ∷ record { class = (class 1); is_static = false; is_volatile = false; kind = kind.Ref; constant = values.Null }
      ∷ record { class = (class 2); is_static = true; is_volatile = false; kind = kind.Int; constant = (values.Int (pos 0)) }
      ∷ [];
  methods =
      record {
        name = [];
        class = (class 0);
        is_static = false;
        is_constructor = true;
        is_synchronized = false;
        is_helper = false;
        formals = (kind.Int ∷ []);
        locals = [];
        result = None;
        body = (Then (Do (Evaluate (Assign (FieldOf This (field 0)) (Read (Local 0))))) (Do (Evaluate (Assign (FieldOf This (field 6)) (NewArray elems.Int (Read (Local 0)))))));
      }
      ∷ record {
        name = [];
        class = (class 0);
        is_static = false;
        is_constructor = false;
        is_synchronized = true;
        is_helper = false;
        formals = (kind.Int ∷ []);
        locals = [];
        result = (Some kind.Int);
        body = (Then (If (Binary (binary.Compare compare.Less width.Int) (Read (Local 0)) (Number width.Int (pos 0))) (Throw faults.IllegalArgumentException) Skip) (Then (Do (Evaluate (Compound (binary.Arithmetic arithmetic.Add width.Int) false (FieldOf This (field 0)) (Read (Local 0))))) (ReturnValue (Read (FieldOf This (field 0))))));
      }
      ∷ record {
        name = [];
        class = (class 0);
        is_static = true;
        is_constructor = false;
        is_synchronized = true;
        is_helper = false;
        formals = (kind.Int ∷ []);
        locals = [];
        result = (Some kind.Int);
        body = (ReturnValue (Binary (binary.Arithmetic arithmetic.Multiply width.Int) (Read (Local 0)) (Number width.Int (pos 2))));
      }
      ∷ record {
        name = [];
        class = (class 0);
        is_static = false;
        is_constructor = false;
        is_synchronized = false;
        is_helper = false;
        formals = [];
        locals = (kind.Ref ∷ []);
        result = (Some kind.Int);
        body = (Then (Declare 0 Null) (ReturnValue (Read (FieldOf (Read (Local 0)) (field 0)))));
      }
      ∷ record {
        name = [];
        class = (class 1);
        is_static = false;
        is_constructor = true;
        is_synchronized = false;
        is_helper = false;
        formals = (kind.Ref ∷ []);
        locals = [];
        result = None;
        body = (Do (Evaluate (Assign (FieldOf This (field 7)) (Read (Local 0)))));
      }
      ∷ record {
        name = [];
        class = (class 1);
        is_static = false;
        is_constructor = false;
        is_synchronized = false;
        is_helper = false;
        formals = [];
        locals = [];
        result = None;
        body = (Then (Do (Evaluate (ResultOf (CallOn (Read (FieldOf This (field 7))) (method 1) (and_then (Number width.Int (pos 3)) no_more))))) (Throw faults.InterruptedException));
      }
      ∷ record {
        name = [];
        class = (class 2);
        is_static = true;
        is_constructor = false;
        is_synchronized = false;
        is_helper = false;
        formals = (kind.Int ∷ []);
        locals = [];
        result = (Some kind.Int);
        body = (Then (Do (Evaluate (Assign (StaticField (field 8)) (Binary (binary.Arithmetic arithmetic.Add width.Int) (Binary (binary.Arithmetic arithmetic.Multiply width.Int) (Read (StaticField (field 8))) (Number width.Int (pos 10))) (Read (Local 0)))))) (ReturnValue (Read (Local 0))));
      }
      ∷ record {
        name = [];
        class = (class 2);
        is_static = true;
        is_constructor = false;
        is_synchronized = false;
        is_helper = false;
        formals = [];
        locals = (kind.Int ∷ kind.Int ∷ kind.Int ∷ kind.Int ∷ kind.Ref ∷ []);
        result = (Some kind.Int);
        body = (Then (Declare 0 (Number width.Int (pos 0))) (Then (Then (Declare 1 (Number width.Int (pos 0))) (Then (Declare 2 (Number width.Int (pos 10))) (Loop (Binary (binary.Compare compare.Less width.Int) (Read (Local 1)) (Number width.Int (pos 6))) ((Evaluate (PostfixIncrement width.Int (Local 1) (pos 1))) ∷ (Evaluate (PrefixIncrement width.Int (Local 2) (negsuc 0))) ∷ []) (Then (If (Binary (binary.Compare compare.Equal width.Int) (Read (Local 1)) (Number width.Int (pos 1))) Continue Skip) (Then (If (Binary (binary.Compare compare.Equal width.Int) (Read (Local 1)) (Number width.Int (pos 4))) Break Skip) (Do (Evaluate (Compound (binary.Arithmetic arithmetic.Add width.Int) false (Local 0) (Binary (binary.Arithmetic arithmetic.Multiply width.Int) (Read (Local 1)) (Read (Local 2))))))))))) (Then (Declare 3 (Number width.Int (pos 3))) (Then (DoLoop (Then (Do (Evaluate (PostfixIncrement width.Int (Local 3) (negsuc 0)))) (Then (If (Binary (binary.Compare compare.Equal width.Int) (Read (Local 3)) (Number width.Int (pos 1))) Continue Skip) (Do (Evaluate (Compound (binary.Bitwise bitwise.Xor width.Int) false (Local 0) (Read (Local 3))))))) (Binary (binary.Compare compare.Greater width.Int) (Read (Local 3)) (Number width.Int (pos 0)))) (Then (Loop (Truth true) [] (Synchronized (ClassObject (class 2)) (Then (Declare 4 NewPlain) (Synchronized (Read (Local 4)) (Then (If (Binary (binary.Compare compare.Greater width.Int) (Read (Local 0)) (Number width.Int (pos 2))) (ReturnValue (Read (Local 0))) Skip) Break))))) (ReturnValue (Number width.Int (negsuc 0))))))));
      }
      ∷ record {
        name = [];
        class = (class 2);
        is_static = true;
        is_constructor = false;
        is_synchronized = false;
        is_helper = false;
        formals = (kind.Int ∷ kind.Bool ∷ []);
        locals = (kind.Int ∷ kind.Caught ∷ kind.Ref ∷ []);
        result = None;
        body = (Then (Declare 2 (Number width.Int (pos 5))) (Try (Do (Evaluate (Assign (Local 2) (Binary (binary.Arithmetic arithmetic.Divide width.Int) (Read (Local 2)) (Binary (binary.Arithmetic arithmetic.Subtract width.Int) (Read (Local 0)) (Read (Local 0))))))) (or_catch faults.ArithmeticException 3 (Then (Declare 4 Null) (Then (Assert (clause 1) (0 ∷ 1 ∷ 2 ∷ 4 ∷ [])) (ThrowCaught 3))) no_catch)));
      }
      ∷ record {
        name = [];
        class = (class 2);
        is_static = true;
        is_constructor = false;
        is_synchronized = false;
        is_helper = false;
        formals = [];
        locals = (kind.Ref ∷ kind.Caught ∷ kind.Caught ∷ kind.Caught ∷ kind.Caught ∷ kind.Ref ∷ kind.Caught ∷ kind.Caught ∷ kind.Caught ∷ kind.Caught ∷ kind.Ref ∷ kind.Caught ∷ kind.Ref ∷ kind.Caught ∷ kind.Caught ∷ kind.Caught ∷ kind.Caught ∷ kind.Ref ∷ kind.Caught ∷ kind.Ref ∷ kind.Caught ∷ kind.Bool ∷ kind.Int ∷ kind.Ref ∷ kind.Ref ∷ kind.Int ∷ []);
        result = None;
        body = (Then (Declare 0 (NewObject (class 0) (and_then (Number width.Int (pos 2)) no_more))) (Then (Println (Shown (Binary (binary.Arithmetic arithmetic.Add width.Int) (ResultOf (CallOn (Read (Local 0)) (method 1) (and_then (Number width.Int (pos 4)) no_more))) (ResultOf (CallStatic (method 2) (and_then (Read (FieldOf (Read (Local 0)) (field 0))) no_more)))) ∷ [])) (Then (Do (Evaluate (Compound (binary.Shift shift.Left width.Int) false (FieldOf (Read (Local 0)) (field 0)) (Number width.Int (pos 33))))) (Then (Do (Evaluate (Compound (binary.Shift shift.Right width.Int) false (FieldOf (Read (Local 0)) (field 0)) (Number width.Int (pos 1))))) (Then (Do (Evaluate (Compound (binary.Shift shift.RightUnsigned width.Int) false (FieldOf (Read (Local 0)) (field 0)) (Number width.Int (pos 0))))) (Then (Do (Evaluate (Compound (binary.Bitwise bitwise.Or width.Int) false (FieldOf (Read (Local 0)) (field 0)) (Number width.Int (pos 8))))) (Then (Do (Evaluate (Compound (binary.Bitwise bitwise.And width.Int) false (FieldOf (Read (Local 0)) (field 0)) (Unary (unary.Complement width.Int) (Number width.Int (pos 1)))))) (Then (Do (Evaluate (Compound (binary.Arithmetic arithmetic.Remainder width.Int) false (FieldOf (Read (Local 0)) (field 0)) (Number width.Int (pos 5))))) (Then (Do (Evaluate (Compound (binary.Arithmetic arithmetic.Subtract width.Int) false (FieldOf (Read (Local 0)) (field 0)) (Number width.Int (negsuc 2))))) (Then (Do (Evaluate (Compound (binary.Arithmetic arithmetic.Multiply width.Int) false (FieldOf (Read (Local 0)) (field 0)) (Number width.Int (pos 2))))) (Then (Do (Evaluate (Compound (binary.Arithmetic arithmetic.Divide width.Int) false (FieldOf (Read (Local 0)) (field 0)) (Number width.Int (pos 3))))) (Then (Println (Literal (text 0) ∷ Shown (Read (FieldOf (Read (Local 0)) (field 0))) ∷ Literal (text 1) ∷ Shown (Read (FieldOf (Read (Local 0)) (field 1))) ∷ [])) (Then (Println (Literal (text 2) ∷ Shown (Binary (binary.Arithmetic arithmetic.Divide width.Int) (Number width.Int (negsuc 16)) (Number width.Int (pos 5))) ∷ Shown (Binary (binary.Arithmetic arithmetic.Remainder width.Int) (Number width.Int (negsuc 16)) (Number width.Int (pos 5))) ∷ Shown (Binary (binary.Shift shift.RightUnsigned width.Int) (Number width.Int (negsuc 16)) (Number width.Int (pos 28))) ∷ Shown (Binary (binary.Shift shift.Right width.Int) (Number width.Int (negsuc 16)) (Number width.Int (pos 2))) ∷ Shown (Binary (binary.Shift shift.Left width.Int) (Number width.Int (pos 1)) (Number width.Int (pos 31))) ∷ Shown (Binary (binary.Bitwise bitwise.Xor width.Int) (Binary (binary.Bitwise bitwise.And width.Int) (Unary (unary.Complement width.Int) (Number width.Int (pos 17))) (Number width.Int (pos 12))) (Number width.Int (pos 3))) ∷ [])) (Then (Do (Evaluate (Assign (FieldOf (Read (Local 0)) (field 1)) (Binary binary.EitherTrue (Unary unary.Not (Read (FieldOf (Read (Local 0)) (field 1)))) (Binary binary.Differ (Read (StaticField (field 4))) (Binary binary.BothTrue (Truth true) (Read (FieldOf (Read (Local 0)) (field 1))))))))) (Then (Println (Shown (Choice (Read (FieldOf (Read (Local 0)) (field 1))) (ResultOf (CallStatic (method 6) (and_then (Number width.Int (pos 1)) no_more))) (ResultOf (CallStatic (method 6) (and_then (Number width.Int (pos 2)) no_more)))) ∷ [])) (Then (Try (Do (Evaluate (ResultOf (CallOn (Read (Local 0)) (method 1) (and_then (Number width.Int (negsuc 0)) no_more))))) (or_catch faults.RuntimeException 1 (Println (Literal (text 3) ∷ [])) no_catch)) (Then (Try (Do (Evaluate (ResultOf (CallOn (Read (Local 0)) (method 3) no_more)))) (or_catch faults.IndexOutOfBoundsException 2 Skip (or_catch faults.Exception 3 (Println (Literal (text 4) ∷ [])) no_catch))) (Then (Try (Do (Evaluate (Assign (ElementOf elems.Int (Read (FieldOf (Read (Local 0)) (field 6))) (ResultOf (CallStatic (method 6) (and_then (Number width.Int (negsuc 0)) no_more)))) (ResultOf (CallStatic (method 6) (and_then (Number width.Int (pos 7)) no_more)))))) (or_catch faults.ArrayIndexOutOfBoundsException 4 (Println (Shown (Read (StaticField (field 8))) ∷ [])) no_catch)) (Then (Declare 5 Null) (Then (Try (Do (Evaluate (Assign (ElementOf elems.Int (Read (Local 5)) (ResultOf (CallStatic (method 6) (and_then (Number width.Int (pos 3)) no_more)))) (ResultOf (CallStatic (method 6) (and_then (Number width.Int (pos 4)) no_more)))))) (or_catch faults.NullPointerException 6 (Println (Shown (Read (StaticField (field 8))) ∷ [])) no_catch)) (Then (Try (Do (Evaluate (Compound (binary.Arithmetic arithmetic.Add width.Int) false (ElementOf elems.Int (Read (Local 5)) (ResultOf (CallStatic (method 6) (and_then (Number width.Int (pos 5)) no_more)))) (ResultOf (CallStatic (method 6) (and_then (Number width.Int (pos 6)) no_more)))))) (or_catch faults.NullPointerException 7 (Println (Shown (Read (StaticField (field 8))) ∷ [])) no_catch)) (Then (Try (Do (Evaluate (Assign (FieldOf (Read (FieldOf (Read (Local 0)) (field 5))) (field 0)) (ResultOf (CallStatic (method 6) (and_then (Number width.Int (pos 8)) no_more)))))) (or_catch faults.NullPointerException 8 (Println (Shown (Read (StaticField (field 8))) ∷ [])) no_catch)) (Then (Try (Do (Evaluate (ResultOf (CallOn (Read (FieldOf (Read (Local 0)) (field 5))) (method 1) (and_then (ResultOf (CallStatic (method 6) (and_then (Number width.Int (pos 9)) no_more))) no_more))))) (or_catch faults.NullPointerException 9 (Println (Shown (Read (StaticField (field 8))) ∷ [])) no_catch)) (Then (Try (Declare 10 (NewArray elems.Int (ResultOf (CallStatic (method 6) (and_then (Number width.Int (negsuc 1)) no_more))))) (or_catch faults.NegativeArraySizeException 11 (Println (Literal (text 5) ∷ [])) no_catch)) (Then (Do (Evaluate (PostfixIncrement width.Int (ElementOf elems.Int (Read (FieldOf (Read (Local 0)) (field 6))) (Number width.Int (pos 1))) (pos 1)))) (Then (Println (Shown (Binary (binary.Arithmetic arithmetic.Add width.Int) (Binary (binary.Arithmetic arithmetic.Add width.Int) (PostfixIncrement width.Int (ElementOf elems.Int (Read (FieldOf (Read (Local 0)) (field 6))) (Number width.Int (pos 1))) (negsuc 0)) (PrefixIncrement width.Int (ElementOf elems.Int (Read (FieldOf (Read (Local 0)) (field 6))) (Number width.Int (pos 0))) (pos 1))) (LengthOf (Read (FieldOf (Read (Local 0)) (field 6))))) ∷ [])) (Then (Declare 12 (NewArray (elems.Class (class 0)) (Number width.Int (pos 3)))) (Then (Do (Evaluate (Assign (ElementOf (elems.Class (class 0)) (Read (Local 12)) (Number width.Int (pos 1))) (Read (Local 0))))) (Then (Do (Evaluate (Assign (ElementOf (elems.Class (class 0)) (Read (Local 12)) (LengthOf (Read (FieldOf (Read (ElementOf (elems.Class (class 0)) (Read (Local 12)) (Number width.Int (pos 1)))) (field 6))))) (Choice (Binary binary.SameReference (Read (ElementOf (elems.Class (class 0)) (Read (Local 12)) (Number width.Int (pos 0)))) Null) (Read (ElementOf (elems.Class (class 0)) (Read (Local 12)) (Number width.Int (pos 1)))) Null)))) (Then (Println (Shown (Binary binary.SameReference (Read (ElementOf (elems.Class (class 0)) (Read (Local 12)) (Number width.Int (pos 2)))) (Read (Local 0))) ∷ [])) (Then (Println (Shown (Or (And (Binary binary.OtherReference (Read (ElementOf (elems.Class (class 0)) (Read (Local 12)) (Number width.Int (pos 2)))) (Read (ElementOf (elems.Class (class 0)) (Read (Local 12)) (Number width.Int (pos 0))))) (Binary binary.SameReference (Read (ElementOf (elems.Class (class 0)) (Read (Local 12)) (Number width.Int (pos 0)))) Null)) (Binary (binary.Compare compare.Greater width.Int) (ResultOf (CallStatic (method 6) (and_then (Number width.Int (pos 1)) no_more))) (Number width.Int (pos 0)))) ∷ [])) (Then (Println (Shown (ResultOf (CallStatic (method 7) no_more)) ∷ [])) (Then (Try (Do (Invoke (CallStatic (method 8) (and_then (Number width.Int (pos 2)) (and_then (Truth true) no_more))))) (or_catch faults.RuntimeException 13 (Println (Literal (text 6) ∷ [])) no_catch)) (Then (Try (Then (Do (Sleep (Number width.Int (pos 1)))) (Then (Do Yield) (Do (Sleep (Number width.Int (negsuc 0)))))) (or_catch faults.IllegalArgumentException 14 (Println (Literal (text 7) ∷ [])) no_catch)) (Then (Try (Do (CallObject calls.Wait (Read (Local 0)))) (or_catch faults.IllegalMonitorStateException 15 (Println (Literal (text 8) ∷ [])) no_catch)) (Then (Try (Do (CallObject calls.NotifyAll (Read (Local 0)))) (or_catch faults.RuntimeException 16 (Println (Literal (text 9) ∷ [])) no_catch)) (Then (Synchronized (Read (Local 0)) (Then (Do (CallObject calls.Notify (Read (Local 0)))) (Do (CallObject calls.NotifyAll (Read (Local 0)))))) (Then (Declare 17 (NewThread (NewObject (class 1) (and_then (Read (Local 0)) no_more)))) (Then (Do (CallObject calls.Start (Read (Local 17)))) (Then (Try (Do (CallObject calls.Start (Read (Local 17)))) (or_catch faults.IllegalThreadStateException 18 (Println (Literal (text 10) ∷ [])) no_catch)) (Then (Do (CallObject calls.Join (Read (Local 17)))) (Then (Do (CallObject calls.Start (NewThread Null))) (Then (Declare 19 (ClassObject (class 0))) (Then (Synchronized (Read (Local 19)) (Do (Evaluate (ResultOf (CallStatic (method 2) (and_then (Number width.Int (pos 1)) no_more)))))) (Then (Try (Synchronized (Read (Local 0)) (Throw faults.Exception)) (or_catch faults.Exception 20 Skip no_catch)) (Then (Declare 21 (Truth false)) (Then (Declare 22 (Number width.Int (pos 0))) (Then (Declare 23 Null) (Then (Println (Shown (Read (Local 21)) ∷ [])) (Then (Println (Shown (Binary binary.BothTrue (Binary (binary.Compare compare.Equal width.Int) (Read (Local 22)) (Number width.Int (pos 0))) (Binary binary.SameReference (Read (Local 23)) Null)) ∷ [])) (Then (Do (Evaluate (Compound (binary.Arithmetic arithmetic.Add width.Int) false (StaticField (field 3)) (Binary (binary.Arithmetic arithmetic.Multiply width.Int) (ResultOf (CallStatic (method 6) (and_then (Number width.Int (pos 2)) no_more))) (Assign (StaticField (field 8)) (Number width.Int (pos 3))))))) (Then (Println (Shown (Read (StaticField (field 3))) ∷ [])) (Then (Then (Do (Evaluate (Assign (StaticField (field 3)) (Number width.Int (pos 0))))) (Loop (Binary (binary.Compare compare.Less width.Int) (Read (StaticField (field 3))) (Number width.Int (pos 2))) ((Evaluate (PostfixIncrement width.Int (StaticField (field 3)) (pos 1))) ∷ []) (If (Binary (binary.Compare compare.Equal width.Int) (Read (StaticField (field 3))) (Number width.Int (pos 1))) Continue Skip))) (Then (Declare 24 (NewObject (class 0) (and_then (ResultOf (CallStatic (method 6) (and_then (Number width.Int (pos 2)) no_more))) no_more))) (Then (Declare 25 (Number width.Int (pos 5))) (Then (Do (Evaluate (Assign (Local 25) (Binary (binary.Arithmetic arithmetic.Add width.Int) (PostfixIncrement width.Int (Local 25) (pos 1)) (PrefixIncrement width.Int (Local 25) (pos 1)))))) (Then (Do (Evaluate (Compound (binary.Arithmetic arithmetic.Add width.Int) false (Local 25) (Binary (binary.Arithmetic arithmetic.Multiply width.Int) (PostfixIncrement width.Int (Local 25) (pos 1)) (Assign (Local 25) (Number width.Int (pos 2))))))) (Then (Println (Shown (Read (Local 25)) ∷ [])) (Then (Println (Shown (Binary (binary.Arithmetic arithmetic.Add width.Int) (Number width.Int (pos 2147483647)) (Number width.Int (pos 1))) ∷ [])) (Then (Println (Shown (Binary (binary.Arithmetic arithmetic.Divide width.Int) (Number width.Int (negsuc 2147483647)) (Number width.Int (negsuc 0))) ∷ [])) (Println (Shown (Binary (binary.Arithmetic arithmetic.Add width.Int) (Unary (unary.Negate width.Int) (Number width.Int (negsuc 2147483647))) (Binary (binary.Arithmetic arithmetic.Multiply width.Int) (Number width.Int (pos 70000)) (Number width.Int (pos 70000)))) ∷ []))))))))))))))))))))))))))))))))))))))))))))))))))))))))))))));
      }
      ∷ [];
  clauses =
      record { kind = clauses.Assert; owner = (spec.OfMethod (method 8)); mode = modes.Java; is_static = true; place = record { line = 43; column = 11 }; states = ((spec.And (spec.And (spec.Binary (binary.Compare compare.Equal width.Int) (spec.Variable 2) (spec.Number width.Int (pos 5))) (spec.Binary binary.SameReference (spec.Variable 3) spec.Null)) (spec.Binary (binary.Compare compare.Greater width.Int) (spec.Variable 0) (spec.Number width.Int (pos 0)))) ∷ []) }
      ∷ [];
  notes = [];
  texts = (codes "n " ∷ codes " on " ∷ codes "" ∷ codes "runtime" ∷ codes "any" ∷ codes "size" ∷ codes "again" ∷ codes "sleep" ∷ codes "wait" ∷ codes "notify" ∷ codes "start" ∷ []);
  main = (method 9);
}

guest_1 : List Answered
guest_1 =
    record { deed = deeds.Call (method 9) None []; reply = replies.Unit }
    ∷ record { deed = deeds.New (kinds.Object (class 0)); reply = replies.Made (object 4) }
    ∷ record { deed = deeds.Call (method 0) (Some (object 4)) ((values.Int (pos 2)) ∷ []); reply = replies.Unit }
    ∷ record { deed = deeds.Put (cell (object 4) 0) (values.Int (pos 2)); reply = replies.Unit }
    ∷ record { deed = deeds.New (kinds.Array elems.Int 2); reply = replies.Made (object 5) }
    ∷ record { deed = deeds.Put (cell (object 4) 4) (values.Ref (object 5)); reply = replies.Unit }
    ∷ record { deed = deeds.Leave (method 0) (leaves.Normal None); reply = replies.Unit }
    ∷ record { deed = deeds.Enter (object 4) ways.Method; reply = replies.Unit }
    ∷ record { deed = deeds.Call (method 1) (Some (object 4)) ((values.Int (pos 4)) ∷ []); reply = replies.Unit }
    ∷ record { deed = deeds.Get (cell (object 4) 0); reply = replies.Value (values.Int (pos 2)) }
    ∷ record { deed = deeds.Put (cell (object 4) 0) (values.Int (pos 6)); reply = replies.Unit }
    ∷ record { deed = deeds.Get (cell (object 4) 0); reply = replies.Value (values.Int (pos 6)) }
    ∷ record { deed = deeds.Leave (method 1) (leaves.Normal (Some (values.Int (pos 6)))); reply = replies.Unit }
    ∷ record { deed = deeds.Exit (object 4); reply = replies.Unit }
    ∷ record { deed = deeds.Get (cell (object 4) 0); reply = replies.Value (values.Int (pos 6)) }
    ∷ record { deed = deeds.Enter (object 1) ways.Method; reply = replies.Unit }
    ∷ record { deed = deeds.Call (method 2) None ((values.Int (pos 6)) ∷ []); reply = replies.Unit }
    ∷ record { deed = deeds.Leave (method 2) (leaves.Normal (Some (values.Int (pos 12)))); reply = replies.Unit }
    ∷ record { deed = deeds.Exit (object 1); reply = replies.Unit }
    ∷ record { deed = deeds.Print (Val (values.Int (pos 18)) ∷ []); reply = replies.Unit }
    ∷ record { deed = deeds.Get (cell (object 4) 0); reply = replies.Value (values.Int (pos 6)) }
    ∷ record { deed = deeds.Put (cell (object 4) 0) (values.Int (pos 12)); reply = replies.Unit }
    ∷ record { deed = deeds.Get (cell (object 4) 0); reply = replies.Value (values.Int (pos 12)) }
    ∷ record { deed = deeds.Put (cell (object 4) 0) (values.Int (pos 6)); reply = replies.Unit }
    ∷ record { deed = deeds.Get (cell (object 4) 0); reply = replies.Value (values.Int (pos 6)) }
    ∷ record { deed = deeds.Put (cell (object 4) 0) (values.Int (pos 6)); reply = replies.Unit }
    ∷ record { deed = deeds.Get (cell (object 4) 0); reply = replies.Value (values.Int (pos 6)) }
    ∷ record { deed = deeds.Put (cell (object 4) 0) (values.Int (pos 14)); reply = replies.Unit }
    ∷ record { deed = deeds.Get (cell (object 4) 0); reply = replies.Value (values.Int (pos 14)) }
    ∷ record { deed = deeds.Put (cell (object 4) 0) (values.Int (pos 14)); reply = replies.Unit }
    ∷ record { deed = deeds.Get (cell (object 4) 0); reply = replies.Value (values.Int (pos 14)) }
    ∷ record { deed = deeds.Put (cell (object 4) 0) (values.Int (pos 4)); reply = replies.Unit }
    ∷ record { deed = deeds.Get (cell (object 4) 0); reply = replies.Value (values.Int (pos 4)) }
    ∷ record { deed = deeds.Put (cell (object 4) 0) (values.Int (pos 7)); reply = replies.Unit }
    ∷ record { deed = deeds.Get (cell (object 4) 0); reply = replies.Value (values.Int (pos 7)) }
    ∷ record { deed = deeds.Put (cell (object 4) 0) (values.Int (pos 14)); reply = replies.Unit }
    ∷ record { deed = deeds.Get (cell (object 4) 0); reply = replies.Value (values.Int (pos 14)) }
    ∷ record { deed = deeds.Put (cell (object 4) 0) (values.Int (pos 4)); reply = replies.Unit }
    ∷ record { deed = deeds.Get (cell (object 4) 0); reply = replies.Value (values.Int (pos 4)) }
    ∷ record { deed = deeds.Get (cell (object 4) 1); reply = replies.Value (values.Bool true) }
    ∷ record { deed = deeds.Print (Text (text 0) ∷ Val (values.Int (pos 4)) ∷ Text (text 1) ∷ Val (values.Bool true) ∷ []); reply = replies.Unit }
    ∷ record { deed = deeds.Print (Text (text 2) ∷ Val (values.Int (negsuc 2)) ∷ Val (values.Int (negsuc 1)) ∷ Val (values.Int (pos 15)) ∷ Val (values.Int (negsuc 4)) ∷ Val (values.Int (negsuc 2147483647)) ∷ Val (values.Int (pos 15)) ∷ []); reply = replies.Unit }
    ∷ record { deed = deeds.Get (cell (object 4) 1); reply = replies.Value (values.Bool true) }
    ∷ record { deed = deeds.Get (cell (object 1) 1); reply = replies.Value (values.Bool false) }
    ∷ record { deed = deeds.Get (cell (object 4) 1); reply = replies.Value (values.Bool true) }
    ∷ record { deed = deeds.Put (cell (object 4) 1) (values.Bool true); reply = replies.Unit }
    ∷ record { deed = deeds.Get (cell (object 4) 1); reply = replies.Value (values.Bool true) }
    ∷ record { deed = deeds.Call (method 6) None ((values.Int (pos 1)) ∷ []); reply = replies.Unit }
    ∷ record { deed = deeds.Get (cell (object 3) 0); reply = replies.Value (values.Int (pos 0)) }
    ∷ record { deed = deeds.Put (cell (object 3) 0) (values.Int (pos 1)); reply = replies.Unit }
    ∷ record { deed = deeds.Leave (method 6) (leaves.Normal (Some (values.Int (pos 1)))); reply = replies.Unit }
    ∷ record { deed = deeds.Print (Val (values.Int (pos 1)) ∷ []); reply = replies.Unit }
    ∷ record { deed = deeds.Enter (object 4) ways.Method; reply = replies.Unit }
    ∷ record { deed = deeds.Call (method 1) (Some (object 4)) ((values.Int (negsuc 0)) ∷ []); reply = replies.Unit }
    ∷ record { deed = deeds.Leave (method 1) leaves.Abrupt; reply = replies.Unit }
    ∷ record { deed = deeds.Exit (object 4); reply = replies.Unit }
    ∷ record { deed = deeds.Print (Text (text 3) ∷ []); reply = replies.Unit }
    ∷ record { deed = deeds.Call (method 3) (Some (object 4)) []; reply = replies.Unit }
    ∷ record { deed = deeds.Leave (method 3) leaves.Abrupt; reply = replies.Unit }
    ∷ record { deed = deeds.Print (Text (text 4) ∷ []); reply = replies.Unit }
    ∷ record { deed = deeds.Get (cell (object 4) 4); reply = replies.Value (values.Ref (object 5)) }
    ∷ record { deed = deeds.Call (method 6) None ((values.Int (negsuc 0)) ∷ []); reply = replies.Unit }
    ∷ record { deed = deeds.Get (cell (object 3) 0); reply = replies.Value (values.Int (pos 1)) }
    ∷ record { deed = deeds.Put (cell (object 3) 0) (values.Int (pos 9)); reply = replies.Unit }
    ∷ record { deed = deeds.Leave (method 6) (leaves.Normal (Some (values.Int (negsuc 0)))); reply = replies.Unit }
    ∷ record { deed = deeds.Call (method 6) None ((values.Int (pos 7)) ∷ []); reply = replies.Unit }
    ∷ record { deed = deeds.Get (cell (object 3) 0); reply = replies.Value (values.Int (pos 9)) }
    ∷ record { deed = deeds.Put (cell (object 3) 0) (values.Int (pos 97)); reply = replies.Unit }
    ∷ record { deed = deeds.Leave (method 6) (leaves.Normal (Some (values.Int (pos 7)))); reply = replies.Unit }
    ∷ record { deed = deeds.Put (cell (object 5) 4294967295) (values.Int (pos 7)); reply = replies.Range }
    ∷ record { deed = deeds.Get (cell (object 3) 0); reply = replies.Value (values.Int (pos 97)) }
    ∷ record { deed = deeds.Print (Val (values.Int (pos 97)) ∷ []); reply = replies.Unit }
    ∷ record { deed = deeds.Call (method 6) None ((values.Int (pos 3)) ∷ []); reply = replies.Unit }
    ∷ record { deed = deeds.Get (cell (object 3) 0); reply = replies.Value (values.Int (pos 97)) }
    ∷ record { deed = deeds.Put (cell (object 3) 0) (values.Int (pos 973)); reply = replies.Unit }
    ∷ record { deed = deeds.Leave (method 6) (leaves.Normal (Some (values.Int (pos 3)))); reply = replies.Unit }
    ∷ record { deed = deeds.Call (method 6) None ((values.Int (pos 4)) ∷ []); reply = replies.Unit }
    ∷ record { deed = deeds.Get (cell (object 3) 0); reply = replies.Value (values.Int (pos 973)) }
    ∷ record { deed = deeds.Put (cell (object 3) 0) (values.Int (pos 9734)); reply = replies.Unit }
    ∷ record { deed = deeds.Leave (method 6) (leaves.Normal (Some (values.Int (pos 4)))); reply = replies.Unit }
    ∷ record { deed = deeds.Get (cell (object 3) 0); reply = replies.Value (values.Int (pos 9734)) }
    ∷ record { deed = deeds.Print (Val (values.Int (pos 9734)) ∷ []); reply = replies.Unit }
    ∷ record { deed = deeds.Call (method 6) None ((values.Int (pos 5)) ∷ []); reply = replies.Unit }
    ∷ record { deed = deeds.Get (cell (object 3) 0); reply = replies.Value (values.Int (pos 9734)) }
    ∷ record { deed = deeds.Put (cell (object 3) 0) (values.Int (pos 97345)); reply = replies.Unit }
    ∷ record { deed = deeds.Leave (method 6) (leaves.Normal (Some (values.Int (pos 5)))); reply = replies.Unit }
    ∷ record { deed = deeds.Get (cell (object 3) 0); reply = replies.Value (values.Int (pos 97345)) }
    ∷ record { deed = deeds.Print (Val (values.Int (pos 97345)) ∷ []); reply = replies.Unit }
    ∷ record { deed = deeds.Get (cell (object 4) 3); reply = replies.Value values.Null }
    ∷ record { deed = deeds.Call (method 6) None ((values.Int (pos 8)) ∷ []); reply = replies.Unit }
    ∷ record { deed = deeds.Get (cell (object 3) 0); reply = replies.Value (values.Int (pos 97345)) }
    ∷ record { deed = deeds.Put (cell (object 3) 0) (values.Int (pos 973458)); reply = replies.Unit }
    ∷ record { deed = deeds.Leave (method 6) (leaves.Normal (Some (values.Int (pos 8)))); reply = replies.Unit }
    ∷ record { deed = deeds.Get (cell (object 3) 0); reply = replies.Value (values.Int (pos 973458)) }
    ∷ record { deed = deeds.Print (Val (values.Int (pos 973458)) ∷ []); reply = replies.Unit }
    ∷ record { deed = deeds.Get (cell (object 4) 3); reply = replies.Value values.Null }
    ∷ record { deed = deeds.Call (method 6) None ((values.Int (pos 9)) ∷ []); reply = replies.Unit }
    ∷ record { deed = deeds.Get (cell (object 3) 0); reply = replies.Value (values.Int (pos 973458)) }
    ∷ record { deed = deeds.Put (cell (object 3) 0) (values.Int (pos 9734589)); reply = replies.Unit }
    ∷ record { deed = deeds.Leave (method 6) (leaves.Normal (Some (values.Int (pos 9)))); reply = replies.Unit }
    ∷ record { deed = deeds.Get (cell (object 3) 0); reply = replies.Value (values.Int (pos 9734589)) }
    ∷ record { deed = deeds.Print (Val (values.Int (pos 9734589)) ∷ []); reply = replies.Unit }
    ∷ record { deed = deeds.Call (method 6) None ((values.Int (negsuc 1)) ∷ []); reply = replies.Unit }
    ∷ record { deed = deeds.Get (cell (object 3) 0); reply = replies.Value (values.Int (pos 9734589)) }
    ∷ record { deed = deeds.Put (cell (object 3) 0) (values.Int (pos 97345888)); reply = replies.Unit }
    ∷ record { deed = deeds.Leave (method 6) (leaves.Normal (Some (values.Int (negsuc 1)))); reply = replies.Unit }
    ∷ record { deed = deeds.Print (Text (text 5) ∷ []); reply = replies.Unit }
    ∷ record { deed = deeds.Get (cell (object 4) 4); reply = replies.Value (values.Ref (object 5)) }
    ∷ record { deed = deeds.Get (cell (object 5) 1); reply = replies.Value (values.Int (pos 0)) }
    ∷ record { deed = deeds.Put (cell (object 5) 1) (values.Int (pos 1)); reply = replies.Unit }
    ∷ record { deed = deeds.Get (cell (object 4) 4); reply = replies.Value (values.Ref (object 5)) }
    ∷ record { deed = deeds.Get (cell (object 5) 1); reply = replies.Value (values.Int (pos 1)) }
    ∷ record { deed = deeds.Put (cell (object 5) 1) (values.Int (pos 0)); reply = replies.Unit }
    ∷ record { deed = deeds.Get (cell (object 4) 4); reply = replies.Value (values.Ref (object 5)) }
    ∷ record { deed = deeds.Get (cell (object 5) 0); reply = replies.Value (values.Int (pos 0)) }
    ∷ record { deed = deeds.Put (cell (object 5) 0) (values.Int (pos 1)); reply = replies.Unit }
    ∷ record { deed = deeds.Get (cell (object 4) 4); reply = replies.Value (values.Ref (object 5)) }
    ∷ record { deed = deeds.Len (object 5); reply = replies.Value (values.Int (pos 2)) }
    ∷ record { deed = deeds.Print (Val (values.Int (pos 4)) ∷ []); reply = replies.Unit }
    ∷ record { deed = deeds.New (kinds.Array (elems.Class (class 0)) 3); reply = replies.Made (object 6) }
    ∷ record { deed = deeds.Put (cell (object 6) 1) (values.Ref (object 4)); reply = replies.Unit }
    ∷ record { deed = deeds.Get (cell (object 6) 1); reply = replies.Value (values.Ref (object 4)) }
    ∷ record { deed = deeds.Get (cell (object 4) 4); reply = replies.Value (values.Ref (object 5)) }
    ∷ record { deed = deeds.Len (object 5); reply = replies.Value (values.Int (pos 2)) }
    ∷ record { deed = deeds.Get (cell (object 6) 0); reply = replies.Value values.Null }
    ∷ record { deed = deeds.Get (cell (object 6) 1); reply = replies.Value (values.Ref (object 4)) }
    ∷ record { deed = deeds.Put (cell (object 6) 2) (values.Ref (object 4)); reply = replies.Unit }
    ∷ record { deed = deeds.Get (cell (object 6) 2); reply = replies.Value (values.Ref (object 4)) }
    ∷ record { deed = deeds.Print (Val (values.Bool true) ∷ []); reply = replies.Unit }
    ∷ record { deed = deeds.Get (cell (object 6) 2); reply = replies.Value (values.Ref (object 4)) }
    ∷ record { deed = deeds.Get (cell (object 6) 0); reply = replies.Value values.Null }
    ∷ record { deed = deeds.Get (cell (object 6) 0); reply = replies.Value values.Null }
    ∷ record { deed = deeds.Print (Val (values.Bool true) ∷ []); reply = replies.Unit }
    ∷ record { deed = deeds.Call (method 7) None []; reply = replies.Unit }
    ∷ record { deed = deeds.Back; reply = replies.Unit }
    ∷ record { deed = deeds.Back; reply = replies.Unit }
    ∷ record { deed = deeds.Back; reply = replies.Unit }
    ∷ record { deed = deeds.Back; reply = replies.Unit }
    ∷ record { deed = deeds.Back; reply = replies.Unit }
    ∷ record { deed = deeds.Back; reply = replies.Unit }
    ∷ record { deed = deeds.Enter (object 3) ways.Block; reply = replies.Unit }
    ∷ record { deed = deeds.New kinds.Plain; reply = replies.Made (object 7) }
    ∷ record { deed = deeds.Enter (object 7) ways.Block; reply = replies.Unit }
    ∷ record { deed = deeds.Exit (object 7); reply = replies.Unit }
    ∷ record { deed = deeds.Exit (object 3); reply = replies.Unit }
    ∷ record { deed = deeds.Leave (method 7) (leaves.Normal (Some (values.Int (pos 39)))); reply = replies.Unit }
    ∷ record { deed = deeds.Print (Val (values.Int (pos 39)) ∷ []); reply = replies.Unit }
    ∷ record { deed = deeds.Call (method 8) None ((values.Int (pos 2)) ∷ (values.Bool true) ∷ []); reply = replies.Unit }
    ∷ record { deed = deeds.Assert (clause 1) (values.Null ∷ (values.Int (pos 2)) ∷ (values.Bool true) ∷ (values.Int (pos 5)) ∷ values.Null ∷ []); reply = replies.Unit }
    ∷ record { deed = deeds.Leave (method 8) leaves.Abrupt; reply = replies.Unit }
    ∷ record { deed = deeds.Print (Text (text 6) ∷ []); reply = replies.Unit }
    ∷ record { deed = deeds.Back; reply = replies.Unit }
    ∷ record { deed = deeds.Back; reply = replies.Unit }
    ∷ record { deed = deeds.Print (Text (text 7) ∷ []); reply = replies.Unit }
    ∷ record { deed = deeds.Wait (object 4); reply = replies.Illegal }
    ∷ record { deed = deeds.Print (Text (text 8) ∷ []); reply = replies.Unit }
    ∷ record { deed = deeds.NotifyAll (object 4); reply = replies.Illegal }
    ∷ record { deed = deeds.Print (Text (text 9) ∷ []); reply = replies.Unit }
    ∷ record { deed = deeds.Enter (object 4) ways.Block; reply = replies.Unit }
    ∷ record { deed = deeds.Notify (object 4); reply = replies.Nobody }
    ∷ record { deed = deeds.NotifyAll (object 4); reply = replies.Unit }
    ∷ record { deed = deeds.Exit (object 4); reply = replies.Unit }
    ∷ record { deed = deeds.New kinds.Thread; reply = replies.Made (object 8) }
    ∷ record { deed = deeds.New (kinds.Object (class 1)); reply = replies.Made (object 9) }
    ∷ record { deed = deeds.Call (method 4) (Some (object 9)) ((values.Ref (object 4)) ∷ []); reply = replies.Unit }
    ∷ record { deed = deeds.Put (cell (object 9) 0) (values.Ref (object 4)); reply = replies.Unit }
    ∷ record { deed = deeds.Leave (method 4) (leaves.Normal None); reply = replies.Unit }
    ∷ record { deed = deeds.Put (cell (object 8) 0) (values.Ref (object 9)); reply = replies.Unit }
    ∷ record { deed = deeds.Start (object 8); reply = replies.Started (guest 2) (Some (record { method = (method 5); this = (Some (object 9)) })) }
    ∷ record { deed = deeds.Start (object 8); reply = replies.Illegal }
    ∷ record { deed = deeds.Print (Text (text 10) ∷ []); reply = replies.Unit }
    ∷ record { deed = deeds.Join (object 8); reply = replies.Unit }
    ∷ record { deed = deeds.New kinds.Thread; reply = replies.Made (object 10) }
    ∷ record { deed = deeds.Put (cell (object 10) 0) values.Null; reply = replies.Unit }
    ∷ record { deed = deeds.Start (object 10); reply = replies.Started (guest 3) (None) }
    ∷ record { deed = deeds.Enter (object 1) ways.Block; reply = replies.Unit }
    ∷ record { deed = deeds.Enter (object 1) ways.Method; reply = replies.Unit }
    ∷ record { deed = deeds.Call (method 2) None ((values.Int (pos 1)) ∷ []); reply = replies.Unit }
    ∷ record { deed = deeds.Leave (method 2) (leaves.Normal (Some (values.Int (pos 2)))); reply = replies.Unit }
    ∷ record { deed = deeds.Exit (object 1); reply = replies.Unit }
    ∷ record { deed = deeds.Exit (object 1); reply = replies.Unit }
    ∷ record { deed = deeds.Enter (object 4) ways.Block; reply = replies.Unit }
    ∷ record { deed = deeds.Exit (object 4); reply = replies.Unit }
    ∷ record { deed = deeds.Print (Val (values.Bool false) ∷ []); reply = replies.Unit }
    ∷ record { deed = deeds.Print (Val (values.Bool true) ∷ []); reply = replies.Unit }
    ∷ record { deed = deeds.Get (cell (object 1) 0); reply = replies.Value (values.Int (negsuc 6)) }
    ∷ record { deed = deeds.Call (method 6) None ((values.Int (pos 2)) ∷ []); reply = replies.Unit }
    ∷ record { deed = deeds.Get (cell (object 3) 0); reply = replies.Value (values.Int (pos 97345888)) }
    ∷ record { deed = deeds.Put (cell (object 3) 0) (values.Int (pos 973458882)); reply = replies.Unit }
    ∷ record { deed = deeds.Leave (method 6) (leaves.Normal (Some (values.Int (pos 2)))); reply = replies.Unit }
    ∷ record { deed = deeds.Put (cell (object 3) 0) (values.Int (pos 3)); reply = replies.Unit }
    ∷ record { deed = deeds.Put (cell (object 1) 0) (values.Int (negsuc 0)); reply = replies.Unit }
    ∷ record { deed = deeds.Get (cell (object 1) 0); reply = replies.Value (values.Int (negsuc 0)) }
    ∷ record { deed = deeds.Print (Val (values.Int (negsuc 0)) ∷ []); reply = replies.Unit }
    ∷ record { deed = deeds.Put (cell (object 1) 0) (values.Int (pos 0)); reply = replies.Unit }
    ∷ record { deed = deeds.Get (cell (object 1) 0); reply = replies.Value (values.Int (pos 0)) }
    ∷ record { deed = deeds.Get (cell (object 1) 0); reply = replies.Value (values.Int (pos 0)) }
    ∷ record { deed = deeds.Get (cell (object 1) 0); reply = replies.Value (values.Int (pos 0)) }
    ∷ record { deed = deeds.Put (cell (object 1) 0) (values.Int (pos 1)); reply = replies.Unit }
    ∷ record { deed = deeds.Back; reply = replies.Unit }
    ∷ record { deed = deeds.Get (cell (object 1) 0); reply = replies.Value (values.Int (pos 1)) }
    ∷ record { deed = deeds.Get (cell (object 1) 0); reply = replies.Value (values.Int (pos 1)) }
    ∷ record { deed = deeds.Get (cell (object 1) 0); reply = replies.Value (values.Int (pos 1)) }
    ∷ record { deed = deeds.Put (cell (object 1) 0) (values.Int (pos 2)); reply = replies.Unit }
    ∷ record { deed = deeds.Back; reply = replies.Unit }
    ∷ record { deed = deeds.Get (cell (object 1) 0); reply = replies.Value (values.Int (pos 2)) }
    ∷ record { deed = deeds.New (kinds.Object (class 0)); reply = replies.Made (object 11) }
    ∷ record { deed = deeds.Call (method 6) None ((values.Int (pos 2)) ∷ []); reply = replies.Unit }
    ∷ record { deed = deeds.Get (cell (object 3) 0); reply = replies.Value (values.Int (pos 3)) }
    ∷ record { deed = deeds.Put (cell (object 3) 0) (values.Int (pos 32)); reply = replies.Unit }
    ∷ record { deed = deeds.Leave (method 6) (leaves.Normal (Some (values.Int (pos 2)))); reply = replies.Unit }
    ∷ record { deed = deeds.Call (method 0) (Some (object 11)) ((values.Int (pos 2)) ∷ []); reply = replies.Unit }
    ∷ record { deed = deeds.Put (cell (object 11) 0) (values.Int (pos 2)); reply = replies.Unit }
    ∷ record { deed = deeds.New (kinds.Array elems.Int 2); reply = replies.Made (object 12) }
    ∷ record { deed = deeds.Put (cell (object 11) 4) (values.Ref (object 12)); reply = replies.Unit }
    ∷ record { deed = deeds.Leave (method 0) (leaves.Normal None); reply = replies.Unit }
    ∷ record { deed = deeds.Print (Val (values.Int (pos 36)) ∷ []); reply = replies.Unit }
    ∷ record { deed = deeds.Print (Val (values.Int (negsuc 2147483647)) ∷ []); reply = replies.Unit }
    ∷ record { deed = deeds.Print (Val (values.Int (negsuc 2147483647)) ∷ []); reply = replies.Unit }
    ∷ record { deed = deeds.Print (Val (values.Int (negsuc 1542450943)) ∷ []); reply = replies.Unit }
    ∷ record { deed = deeds.Leave (method 9) (leaves.Normal None); reply = replies.Unit }
    ∷ record { deed = deeds.End ends.Normal; reply = replies.Unit }
    ∷ []

guest_1_does : does forms (Some (record { method = (method 9); this = None })) guest_1 ≡ each_of guest_1 Ended
unfolding forms guest_1 int_wrap
guest_1_does = refl

guest_2 : List Answered
guest_2 =
    record { deed = deeds.Call (method 5) (Some (object 9)) []; reply = replies.Unit }
    ∷ record { deed = deeds.Get (cell (object 9) 0); reply = replies.Value (values.Ref (object 4)) }
    ∷ record { deed = deeds.Enter (object 4) ways.Method; reply = replies.Unit }
    ∷ record { deed = deeds.Call (method 1) (Some (object 4)) ((values.Int (pos 3)) ∷ []); reply = replies.Unit }
    ∷ record { deed = deeds.Get (cell (object 4) 0); reply = replies.Value (values.Int (pos 4)) }
    ∷ record { deed = deeds.Put (cell (object 4) 0) (values.Int (pos 7)); reply = replies.Unit }
    ∷ record { deed = deeds.Get (cell (object 4) 0); reply = replies.Value (values.Int (pos 7)) }
    ∷ record { deed = deeds.Leave (method 1) (leaves.Normal (Some (values.Int (pos 7)))); reply = replies.Unit }
    ∷ record { deed = deeds.Exit (object 4); reply = replies.Unit }
    ∷ record { deed = deeds.Leave (method 5) leaves.Abrupt; reply = replies.Unit }
    ∷ record { deed = deeds.End (ends.Uncaught faults.InterruptedException); reply = replies.Unit }
    ∷ []

guest_2_does : does forms (Some (record { method = (method 5); this = (Some (object 9)) })) guest_2 ≡ each_of guest_2 Ended
unfolding forms guest_2 int_wrap
guest_2_does = refl

guest_3 : List Answered
guest_3 =
    record { deed = deeds.End ends.Normal; reply = replies.Unit }
    ∷ []

guest_3_does : does forms (None) guest_3 ≡ each_of guest_3 Ended
unfolding forms guest_3 int_wrap
guest_3_does = refl
