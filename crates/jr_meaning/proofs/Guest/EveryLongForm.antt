-- Every form of long, and timed waits.
use Rattle.std.proofs.Common.{◌≡◌, List, [], ◌∷◌, refl, None, Some, pos, negsuc, codes, true, false}
use Rattle.std.specs.Int.{int_wrap}
use Rattle.jr_base.specs.declared.action.Reply.TheVariants as replies
use Rattle.jr_base.specs.declared.action.LeaveHow.TheVariants as leaves
use Rattle.jr_base.specs.declared.action.EndHow.TheVariants as ends
use Rattle.jr_base.specs.declared.action.Way.TheVariants as ways
use Rattle.jr_base.specs.declared.action.NewKind.TheVariants as kinds
use Rattle.jr_base.specs.declared.action.Elem.TheVariants as elems
use Rattle.jr_base.specs.declared.action.PrintPart.TheVariants.{Text, Val}
use Rattle.jr_base.specs.declared.value.Value.TheVariants as values
use Rattle.jr_base.specs.declared.finish.Fault.TheVariants as faults
use Rattle.jr_base.specs.Deed as deeds
use Rattle.jr_base.specs.declared.kind.SlotKind.TheVariants as kind
use Rattle.jr_arith.specs.declared.operator.Width.TheVariants as width
use Rattle.jr_arith.specs.declared.operator.Unary.TheVariants as unary
use Rattle.jr_arith.specs.declared.operator.Arithmetic.TheVariants as arithmetic
use Rattle.jr_arith.specs.declared.operator.Bitwise.TheVariants as bitwise
use Rattle.jr_arith.specs.declared.operator.Shift.TheVariants as shift
use Rattle.jr_arith.specs.declared.operator.Comparison.TheVariants as compare
use Rattle.jr_arith.specs.declared.operator.Binary.TheVariants as binary
use Rattle.jr_base.specs.declared.kind.ObjectCall.TheVariants as calls
use Rattle.jr_program.specs.declared.words.ClauseKind.TheVariants as clauses
use Rattle.jr_program.specs.declared.words.Mode.TheVariants as modes
use Rattle.jr_program.specs.Clauses as spec
use Rattle.jr_program.specs.Programs.{Program, Number, Truth, This, Read, LengthOf, Convert, Unary, Binary, And, Choice, Assign, Compound, PrefixIncrement, PostfixIncrement, ResultOf, NewObject, NewPlain, NewThread, NewArray, Local, StaticField, FieldOf, ElementOf, CallStatic, CallOn, no_more, and_then, Literal, Shown, no_catch, or_catch, Skip, Then, Declare, Evaluate, CallObject, WaitFor, Sleep, Do, ReturnValue, Try, Synchronized, Println, Assert}
use Rattle.jr_meaning.specs.Next.{Ended}
use Rattle.jr_meaning.specs.Objects.{cell}
use Rattle.jr_meaning.proofs.Guest.{Answered, class, field, method, clause, text, object, guest, does, each_of}

--   class Box {
--     long n = -9223372036854775808L;
--     static long total = 7;
--     long[] a;
--     int i = 2147483647;
--     Box(long n) { this.n = n; a = new long[3]; }
--     //@ requires k <= 9223372036854775807L && -9223372036854775808L < k + n;
--     //@ ensures \result == \old(n) + k && (k > 0 ? n : 5) != 0 && n << 3L != 1 && -n != ~n % 3;
--     /*@ spec_safe_math @*/ synchronized long add(long k) { n += k; return n; }
--     int low() { return i; }
--     long wide() { return i; }
--   }
--   class Main implements Runnable {
--     static int count;
--     static int side(int k) { count = count * 10 + k; return k; }
--     static Object lock = null;
--     public void run() {
--       synchronized (this) {
--         try { wait(3L); } catch (InterruptedException e) { }
--         notifyAll();
--       }
--     }
--     public static void main(String[] args) throws InterruptedException {
--       Box b = new Box(2147483647);
--       System.out.println("" + (b.add(side(4)) + b.low()) + " " + b.wide() + Box.total);
--       b.n <<= 33; b.n >>= 65L; b.n >>>= 60; b.n |= 8; b.n &= ~1; b.n %= 5L; b.n -= -3; b.n *= 2147483647; b.n /= 3;
--       System.out.println(b.n);
--       b.i += 9223372036854775807L; System.out.println(b.i);
--       b.i *= 3L; b.i -= 5000000000L; b.i /= 7L; b.i %= 100L; b.i |= 4294967296L; b.i &= 4294967295L; b.i ^= -1L; b.i <<= 33L; b.i >>= 1; b.i >>>= -1L;
--       System.out.println(b.i);
--       int x = 7;
--       System.out.println(x += 4294967299L);
--       long y = x = 3;
--       y = y++ + ++y; y--; --y;
--       System.out.println("y " + y + " " + x);
--       System.out.println(2147483647 + 1 + 1L);
--       System.out.println(2147483647 + 1L + 1);
--       System.out.println(-9223372036854775808L / -1);
--       System.out.println(-9223372036854775808L % -1L);
--       System.out.println(-(-9223372036854775808L) + 3037000500L * 3037000500L);
--       System.out.println((-17L >>> 28) + (-17 >>> 28) + (-17L >> 2) + (1L << 31) + (1 << 31L) + (1L << 63) + (~17L & 12 ^ 3));
--       System.out.println(1 << -1L);
--       System.out.println(true ? x : y);
--       System.out.println(x == 3L && 3L != y && x < 4L && 2L <= x && y > 1 && y >= x);
--       b.a[side(1)] = side(2);
--       b.a[1]++; b.a[2] = b.a[1]-- + ++b.a[0] + b.a.length;
--       System.out.println(b.a[2]);
--       try { y = 1 / (y - y); } catch (ArithmeticException e) { System.out.println("zero"); }
--       try { x %= 0L; } catch (ArithmeticException e) { System.out.println(x); }
--       //@ assert y == -9223372036854775808L || x + 1L > x;
--       try { b.a[-1] += side(5); } catch (ArrayIndexOutOfBoundsException e) { System.out.println(count); }
--       try { lock.wait(side(6)); } catch (NullPointerException e) { System.out.println(count); }
--       try { lock.wait(-1L); } catch (NullPointerException e) { System.out.println("null"); }
--       lock = new Object();
--       try { lock.wait(side(-7)); } catch (IllegalArgumentException e) { System.out.println(count); }
--       try { lock.wait(5000000000L); } catch (IllegalMonitorStateException e) { System.out.println("owner"); }
--       try { lock.wait(0); } catch (IllegalMonitorStateException e) { System.out.println("owner"); }
--       Main m = new Main();
--       Thread t = new Thread(m);
--       t.start();
--       synchronized (m) { m.wait(side(8)); }
--       t.join();
--       synchronized (lock) { lock.wait(0L + 1); }
--       long z; System.out.println(z);
--       Thread.sleep(1);
--       b.a[0] = 2147483647; b.a[0]++; System.out.println(++b.a[0]); System.out.println(b.a[0]--);
--       Box.total = -9223372036854775808L; System.out.println(Box.total-- + --Box.total);
--       b.i = 2147483647; System.out.println(++b.i); System.out.println(b.i--); System.out.println(b.i);
--     }
--   }
program : Program
program = record {
  classes =
      record { name = []; extends_thread = false; implements_runnable = false; run = None; constructor = (Some (method 0)) }
      ∷ record { name = []; extends_thread = false; implements_runnable = true; run = (Some (method 5)); constructor = None }
      ∷ [];
  fields =
      record { class = (class 0); is_static = false; is_volatile = false; kind = kind.Long; constant = (values.Long (negsuc 9223372036854775807)) }
      ∷ record { class = (class 0); is_static = true; is_volatile = false; kind = kind.Long; constant = (values.Long (pos 7)) }
      ∷ record { class = (class 0); is_static = false; is_volatile = false; kind = kind.Ref; constant = values.Null }
      ∷ record { class = (class 0); is_static = false; is_volatile = false; kind = kind.Int; constant = (values.Int (pos 2147483647)) }
      ∷ record { class = (class 1); is_static = true; is_volatile = false; kind = kind.Int; constant = (values.Int (pos 0)) }
      ∷ record { class = (class 1); is_static = true; is_volatile = false; kind = kind.Ref; constant = values.Null }
      ∷ [];
  methods =
      record {
        name = [];
        class = (class 0);
        is_static = false;
        is_constructor = true;
        is_synchronized = false;
        is_helper = false;
        formals = (kind.Long ∷ []);
        locals = [];
        result = None;
        body = (Then (Do (Evaluate (Assign (FieldOf This (field 0)) (Read (Local 0))))) (Do (Evaluate (Assign (FieldOf This (field 2)) (NewArray elems.Long (Number width.Int (pos 3)))))));
      }
      ∷ record {
        name = [];
        class = (class 0);
        is_static = false;
        is_constructor = false;
        is_synchronized = true;
        is_helper = false;
        formals = (kind.Long ∷ []);
        locals = [];
        result = (Some kind.Long);
        body = (Then (Do (Evaluate (Compound (binary.Arithmetic arithmetic.Add width.Long) false (FieldOf This (field 0)) (Read (Local 0))))) (ReturnValue (Read (FieldOf This (field 0)))));
      }
      ∷ record {
        name = [];
        class = (class 0);
        is_static = false;
        is_constructor = false;
        is_synchronized = false;
        is_helper = false;
        formals = [];
        locals = [];
        result = (Some kind.Int);
        body = (ReturnValue (Read (FieldOf This (field 3))));
      }
      ∷ record {
        name = [];
        class = (class 0);
        is_static = false;
        is_constructor = false;
        is_synchronized = false;
        is_helper = false;
        formals = [];
        locals = [];
        result = (Some kind.Long);
        body = (ReturnValue (Convert width.Long (Read (FieldOf This (field 3)))));
      }
      ∷ record {
        name = [];
        class = (class 1);
        is_static = true;
        is_constructor = false;
        is_synchronized = false;
        is_helper = false;
        formals = (kind.Int ∷ []);
        locals = [];
        result = (Some kind.Int);
        body = (Then (Do (Evaluate (Assign (StaticField (field 4)) (Binary (binary.Arithmetic arithmetic.Add width.Int) (Binary (binary.Arithmetic arithmetic.Multiply width.Int) (Read (StaticField (field 4))) (Number width.Int (pos 10))) (Read (Local 0)))))) (ReturnValue (Read (Local 0))));
      }
      ∷ record {
        name = [];
        class = (class 1);
        is_static = false;
        is_constructor = false;
        is_synchronized = false;
        is_helper = false;
        formals = [];
        locals = (kind.Caught ∷ []);
        result = None;
        body = (Synchronized This (Then (Try (Do (WaitFor This (Number width.Long (pos 3)))) (or_catch faults.InterruptedException 0 Skip no_catch)) (Do (CallObject calls.NotifyAll This))));
      }
      ∷ record {
        name = [];
        class = (class 1);
        is_static = true;
        is_constructor = false;
        is_synchronized = false;
        is_helper = false;
        formals = [];
        locals = (kind.Ref ∷ kind.Int ∷ kind.Long ∷ kind.Caught ∷ kind.Caught ∷ kind.Caught ∷ kind.Caught ∷ kind.Caught ∷ kind.Caught ∷ kind.Caught ∷ kind.Caught ∷ kind.Ref ∷ kind.Ref ∷ kind.Long ∷ []);
        result = None;
        body = (Then (Declare 0 (NewObject (class 0) (and_then (Convert width.Long (Number width.Int (pos 2147483647))) no_more))) (Then (Println (Literal (text 0) ∷ Shown (Binary (binary.Arithmetic arithmetic.Add width.Long) (ResultOf (CallOn (Read (Local 0)) (method 1) (and_then (Convert width.Long (ResultOf (CallStatic (method 4) (and_then (Number width.Int (pos 4)) no_more)))) no_more))) (Convert width.Long (ResultOf (CallOn (Read (Local 0)) (method 2) no_more)))) ∷ Literal (text 1) ∷ Shown (ResultOf (CallOn (Read (Local 0)) (method 3) no_more)) ∷ Shown (Read (StaticField (field 1))) ∷ [])) (Then (Do (Evaluate (Compound (binary.Shift shift.Left width.Long) false (FieldOf (Read (Local 0)) (field 0)) (Number width.Int (pos 33))))) (Then (Do (Evaluate (Compound (binary.Shift shift.Right width.Long) false (FieldOf (Read (Local 0)) (field 0)) (Convert width.Int (Number width.Long (pos 65)))))) (Then (Do (Evaluate (Compound (binary.Shift shift.RightUnsigned width.Long) false (FieldOf (Read (Local 0)) (field 0)) (Number width.Int (pos 60))))) (Then (Do (Evaluate (Compound (binary.Bitwise bitwise.Or width.Long) false (FieldOf (Read (Local 0)) (field 0)) (Convert width.Long (Number width.Int (pos 8)))))) (Then (Do (Evaluate (Compound (binary.Bitwise bitwise.And width.Long) false (FieldOf (Read (Local 0)) (field 0)) (Convert width.Long (Unary (unary.Complement width.Int) (Number width.Int (pos 1))))))) (Then (Do (Evaluate (Compound (binary.Arithmetic arithmetic.Remainder width.Long) false (FieldOf (Read (Local 0)) (field 0)) (Number width.Long (pos 5))))) (Then (Do (Evaluate (Compound (binary.Arithmetic arithmetic.Subtract width.Long) false (FieldOf (Read (Local 0)) (field 0)) (Convert width.Long (Number width.Int (negsuc 2)))))) (Then (Do (Evaluate (Compound (binary.Arithmetic arithmetic.Multiply width.Long) false (FieldOf (Read (Local 0)) (field 0)) (Convert width.Long (Number width.Int (pos 2147483647)))))) (Then (Do (Evaluate (Compound (binary.Arithmetic arithmetic.Divide width.Long) false (FieldOf (Read (Local 0)) (field 0)) (Convert width.Long (Number width.Int (pos 3)))))) (Then (Println (Shown (Read (FieldOf (Read (Local 0)) (field 0))) ∷ [])) (Then (Do (Evaluate (Compound (binary.Arithmetic arithmetic.Add width.Long) true (FieldOf (Read (Local 0)) (field 3)) (Number width.Long (pos 9223372036854775807))))) (Then (Println (Shown (Read (FieldOf (Read (Local 0)) (field 3))) ∷ [])) (Then (Do (Evaluate (Compound (binary.Arithmetic arithmetic.Multiply width.Long) true (FieldOf (Read (Local 0)) (field 3)) (Number width.Long (pos 3))))) (Then (Do (Evaluate (Compound (binary.Arithmetic arithmetic.Subtract width.Long) true (FieldOf (Read (Local 0)) (field 3)) (Number width.Long (pos 5000000000))))) (Then (Do (Evaluate (Compound (binary.Arithmetic arithmetic.Divide width.Long) true (FieldOf (Read (Local 0)) (field 3)) (Number width.Long (pos 7))))) (Then (Do (Evaluate (Compound (binary.Arithmetic arithmetic.Remainder width.Long) true (FieldOf (Read (Local 0)) (field 3)) (Number width.Long (pos 100))))) (Then (Do (Evaluate (Compound (binary.Bitwise bitwise.Or width.Long) true (FieldOf (Read (Local 0)) (field 3)) (Number width.Long (pos 4294967296))))) (Then (Do (Evaluate (Compound (binary.Bitwise bitwise.And width.Long) true (FieldOf (Read (Local 0)) (field 3)) (Number width.Long (pos 4294967295))))) (Then (Do (Evaluate (Compound (binary.Bitwise bitwise.Xor width.Long) true (FieldOf (Read (Local 0)) (field 3)) (Number width.Long (negsuc 0))))) (Then (Do (Evaluate (Compound (binary.Shift shift.Left width.Int) false (FieldOf (Read (Local 0)) (field 3)) (Convert width.Int (Number width.Long (pos 33)))))) (Then (Do (Evaluate (Compound (binary.Shift shift.Right width.Int) false (FieldOf (Read (Local 0)) (field 3)) (Number width.Int (pos 1))))) (Then (Do (Evaluate (Compound (binary.Shift shift.RightUnsigned width.Int) false (FieldOf (Read (Local 0)) (field 3)) (Convert width.Int (Number width.Long (negsuc 0)))))) (Then (Println (Shown (Read (FieldOf (Read (Local 0)) (field 3))) ∷ [])) (Then (Declare 1 (Number width.Int (pos 7))) (Then (Println (Shown (Compound (binary.Arithmetic arithmetic.Add width.Long) true (Local 1) (Number width.Long (pos 4294967299))) ∷ [])) (Then (Declare 2 (Convert width.Long (Assign (Local 1) (Number width.Int (pos 3))))) (Then (Do (Evaluate (Assign (Local 2) (Binary (binary.Arithmetic arithmetic.Add width.Long) (PostfixIncrement width.Long (Local 2) (pos 1)) (PrefixIncrement width.Long (Local 2) (pos 1)))))) (Then (Do (Evaluate (PostfixIncrement width.Long (Local 2) (negsuc 0)))) (Then (Do (Evaluate (PrefixIncrement width.Long (Local 2) (negsuc 0)))) (Then (Println (Literal (text 2) ∷ Shown (Read (Local 2)) ∷ Literal (text 3) ∷ Shown (Read (Local 1)) ∷ [])) (Then (Println (Shown (Binary (binary.Arithmetic arithmetic.Add width.Long) (Convert width.Long (Binary (binary.Arithmetic arithmetic.Add width.Int) (Number width.Int (pos 2147483647)) (Number width.Int (pos 1)))) (Number width.Long (pos 1))) ∷ [])) (Then (Println (Shown (Binary (binary.Arithmetic arithmetic.Add width.Long) (Binary (binary.Arithmetic arithmetic.Add width.Long) (Convert width.Long (Number width.Int (pos 2147483647))) (Number width.Long (pos 1))) (Convert width.Long (Number width.Int (pos 1)))) ∷ [])) (Then (Println (Shown (Binary (binary.Arithmetic arithmetic.Divide width.Long) (Number width.Long (negsuc 9223372036854775807)) (Convert width.Long (Number width.Int (negsuc 0)))) ∷ [])) (Then (Println (Shown (Binary (binary.Arithmetic arithmetic.Remainder width.Long) (Number width.Long (negsuc 9223372036854775807)) (Number width.Long (negsuc 0))) ∷ [])) (Then (Println (Shown (Binary (binary.Arithmetic arithmetic.Add width.Long) (Unary (unary.Negate width.Long) (Number width.Long (negsuc 9223372036854775807))) (Binary (binary.Arithmetic arithmetic.Multiply width.Long) (Number width.Long (pos 3037000500)) (Number width.Long (pos 3037000500)))) ∷ [])) (Then (Println (Shown (Binary (binary.Arithmetic arithmetic.Add width.Long) (Binary (binary.Arithmetic arithmetic.Add width.Long) (Binary (binary.Arithmetic arithmetic.Add width.Long) (Binary (binary.Arithmetic arithmetic.Add width.Long) (Binary (binary.Arithmetic arithmetic.Add width.Long) (Binary (binary.Arithmetic arithmetic.Add width.Long) (Binary (binary.Shift shift.RightUnsigned width.Long) (Number width.Long (negsuc 16)) (Number width.Int (pos 28))) (Convert width.Long (Binary (binary.Shift shift.RightUnsigned width.Int) (Number width.Int (negsuc 16)) (Number width.Int (pos 28))))) (Binary (binary.Shift shift.Right width.Long) (Number width.Long (negsuc 16)) (Number width.Int (pos 2)))) (Binary (binary.Shift shift.Left width.Long) (Number width.Long (pos 1)) (Number width.Int (pos 31)))) (Convert width.Long (Binary (binary.Shift shift.Left width.Int) (Number width.Int (pos 1)) (Convert width.Int (Number width.Long (pos 31)))))) (Binary (binary.Shift shift.Left width.Long) (Number width.Long (pos 1)) (Number width.Int (pos 63)))) (Binary (binary.Bitwise bitwise.Xor width.Long) (Binary (binary.Bitwise bitwise.And width.Long) (Unary (unary.Complement width.Long) (Number width.Long (pos 17))) (Convert width.Long (Number width.Int (pos 12)))) (Convert width.Long (Number width.Int (pos 3))))) ∷ [])) (Then (Println (Shown (Binary (binary.Shift shift.Left width.Int) (Number width.Int (pos 1)) (Convert width.Int (Number width.Long (negsuc 0)))) ∷ [])) (Then (Println (Shown (Choice (Truth true) (Convert width.Long (Read (Local 1))) (Read (Local 2))) ∷ [])) (Then (Println (Shown (And (And (And (And (And (Binary (binary.Compare compare.Equal width.Long) (Convert width.Long (Read (Local 1))) (Number width.Long (pos 3))) (Binary (binary.Compare compare.NotEqual width.Long) (Number width.Long (pos 3)) (Read (Local 2)))) (Binary (binary.Compare compare.Less width.Long) (Convert width.Long (Read (Local 1))) (Number width.Long (pos 4)))) (Binary (binary.Compare compare.LessEqual width.Long) (Number width.Long (pos 2)) (Convert width.Long (Read (Local 1))))) (Binary (binary.Compare compare.Greater width.Long) (Read (Local 2)) (Convert width.Long (Number width.Int (pos 1))))) (Binary (binary.Compare compare.GreaterEqual width.Long) (Read (Local 2)) (Convert width.Long (Read (Local 1))))) ∷ [])) (Then (Do (Evaluate (Assign (ElementOf elems.Long (Read (FieldOf (Read (Local 0)) (field 2))) (ResultOf (CallStatic (method 4) (and_then (Number width.Int (pos 1)) no_more)))) (Convert width.Long (ResultOf (CallStatic (method 4) (and_then (Number width.Int (pos 2)) no_more))))))) (Then (Do (Evaluate (PostfixIncrement width.Long (ElementOf elems.Long (Read (FieldOf (Read (Local 0)) (field 2))) (Number width.Int (pos 1))) (pos 1)))) (Then (Do (Evaluate (Assign (ElementOf elems.Long (Read (FieldOf (Read (Local 0)) (field 2))) (Number width.Int (pos 2))) (Binary (binary.Arithmetic arithmetic.Add width.Long) (Binary (binary.Arithmetic arithmetic.Add width.Long) (PostfixIncrement width.Long (ElementOf elems.Long (Read (FieldOf (Read (Local 0)) (field 2))) (Number width.Int (pos 1))) (negsuc 0)) (PrefixIncrement width.Long (ElementOf elems.Long (Read (FieldOf (Read (Local 0)) (field 2))) (Number width.Int (pos 0))) (pos 1))) (Convert width.Long (LengthOf (Read (FieldOf (Read (Local 0)) (field 2))))))))) (Then (Println (Shown (Read (ElementOf elems.Long (Read (FieldOf (Read (Local 0)) (field 2))) (Number width.Int (pos 2)))) ∷ [])) (Then (Try (Do (Evaluate (Assign (Local 2) (Binary (binary.Arithmetic arithmetic.Divide width.Long) (Convert width.Long (Number width.Int (pos 1))) (Binary (binary.Arithmetic arithmetic.Subtract width.Long) (Read (Local 2)) (Read (Local 2))))))) (or_catch faults.ArithmeticException 3 (Println (Literal (text 4) ∷ [])) no_catch)) (Then (Try (Do (Evaluate (Compound (binary.Arithmetic arithmetic.Remainder width.Long) true (Local 1) (Number width.Long (pos 0))))) (or_catch faults.ArithmeticException 4 (Println (Shown (Read (Local 1)) ∷ [])) no_catch)) (Then (Assert (clause 3) (0 ∷ 1 ∷ 2 ∷ [])) (Then (Try (Do (Evaluate (Compound (binary.Arithmetic arithmetic.Add width.Long) false (ElementOf elems.Long (Read (FieldOf (Read (Local 0)) (field 2))) (Number width.Int (negsuc 0))) (Convert width.Long (ResultOf (CallStatic (method 4) (and_then (Number width.Int (pos 5)) no_more))))))) (or_catch faults.ArrayIndexOutOfBoundsException 5 (Println (Shown (Read (StaticField (field 4))) ∷ [])) no_catch)) (Then (Try (Do (WaitFor (Read (StaticField (field 5))) (Convert width.Long (ResultOf (CallStatic (method 4) (and_then (Number width.Int (pos 6)) no_more)))))) (or_catch faults.NullPointerException 6 (Println (Shown (Read (StaticField (field 4))) ∷ [])) no_catch)) (Then (Try (Do (WaitFor (Read (StaticField (field 5))) (Number width.Long (negsuc 0)))) (or_catch faults.NullPointerException 7 (Println (Literal (text 5) ∷ [])) no_catch)) (Then (Do (Evaluate (Assign (StaticField (field 5)) NewPlain))) (Then (Try (Do (WaitFor (Read (StaticField (field 5))) (Convert width.Long (ResultOf (CallStatic (method 4) (and_then (Number width.Int (negsuc 6)) no_more)))))) (or_catch faults.IllegalArgumentException 8 (Println (Shown (Read (StaticField (field 4))) ∷ [])) no_catch)) (Then (Try (Do (WaitFor (Read (StaticField (field 5))) (Number width.Long (pos 5000000000)))) (or_catch faults.IllegalMonitorStateException 9 (Println (Literal (text 6) ∷ [])) no_catch)) (Then (Try (Do (WaitFor (Read (StaticField (field 5))) (Convert width.Long (Number width.Int (pos 0))))) (or_catch faults.IllegalMonitorStateException 10 (Println (Literal (text 7) ∷ [])) no_catch)) (Then (Declare 11 (NewObject (class 1) no_more)) (Then (Declare 12 (NewThread (Read (Local 11)))) (Then (Do (CallObject calls.Start (Read (Local 12)))) (Then (Synchronized (Read (Local 11)) (Do (WaitFor (Read (Local 11)) (Convert width.Long (ResultOf (CallStatic (method 4) (and_then (Number width.Int (pos 8)) no_more))))))) (Then (Do (CallObject calls.Join (Read (Local 12)))) (Then (Synchronized (Read (StaticField (field 5))) (Do (WaitFor (Read (StaticField (field 5))) (Binary (binary.Arithmetic arithmetic.Add width.Long) (Number width.Long (pos 0)) (Convert width.Long (Number width.Int (pos 1))))))) (Then (Declare 13 (Number width.Long (pos 0))) (Then (Println (Shown (Read (Local 13)) ∷ [])) (Then (Do (Sleep (Number width.Int (pos 1)))) (Then (Do (Evaluate (Assign (ElementOf elems.Long (Read (FieldOf (Read (Local 0)) (field 2))) (Number width.Int (pos 0))) (Convert width.Long (Number width.Int (pos 2147483647)))))) (Then (Do (Evaluate (PostfixIncrement width.Long (ElementOf elems.Long (Read (FieldOf (Read (Local 0)) (field 2))) (Number width.Int (pos 0))) (pos 1)))) (Then (Println (Shown (PrefixIncrement width.Long (ElementOf elems.Long (Read (FieldOf (Read (Local 0)) (field 2))) (Number width.Int (pos 0))) (pos 1)) ∷ [])) (Then (Println (Shown (PostfixIncrement width.Long (ElementOf elems.Long (Read (FieldOf (Read (Local 0)) (field 2))) (Number width.Int (pos 0))) (negsuc 0)) ∷ [])) (Then (Do (Evaluate (Assign (StaticField (field 1)) (Number width.Long (negsuc 9223372036854775807))))) (Then (Println (Shown (Binary (binary.Arithmetic arithmetic.Add width.Long) (PostfixIncrement width.Long (StaticField (field 1)) (negsuc 0)) (PrefixIncrement width.Long (StaticField (field 1)) (negsuc 0))) ∷ [])) (Then (Do (Evaluate (Assign (FieldOf (Read (Local 0)) (field 3)) (Number width.Int (pos 2147483647))))) (Then (Println (Shown (PrefixIncrement width.Int (FieldOf (Read (Local 0)) (field 3)) (pos 1)) ∷ [])) (Then (Println (Shown (PostfixIncrement width.Int (FieldOf (Read (Local 0)) (field 3)) (negsuc 0)) ∷ [])) (Println (Shown (Read (FieldOf (Read (Local 0)) (field 3))) ∷ [])))))))))))))))))))))))))))))))))))))))))))))))))))))))))))))))))))))))))));
      }
      ∷ [];
  clauses =
      record { kind = clauses.Requires; owner = (spec.OfMethod (method 1)); mode = modes.Safe; is_static = false; place = record { line = 7; column = 7 }; states = ((spec.And (spec.Binary (binary.Compare compare.LessEqual width.Long) (spec.Variable 0) (spec.Number width.Long (pos 9223372036854775807))) (spec.Binary (binary.Compare compare.Less width.Long) (spec.Number width.Long (negsuc 9223372036854775807)) (spec.Binary (binary.Arithmetic arithmetic.Add width.Long) (spec.Variable 0) (spec.FieldOf spec.This (field 0) 0)))) ∷ []) }
      ∷ record { kind = clauses.Ensures; owner = (spec.OfMethod (method 1)); mode = modes.Safe; is_static = false; place = record { line = 8; column = 7 }; states = ((spec.And (spec.And (spec.And (spec.Binary (binary.Compare compare.Equal width.Long) spec.Result (spec.Binary (binary.Arithmetic arithmetic.Add width.Long) (spec.Old (spec.FieldOf spec.This (field 0) 0)) (spec.Variable 0))) (spec.Binary (binary.Compare compare.NotEqual width.Long) (spec.Choice (spec.Binary (binary.Compare compare.Greater width.Long) (spec.Variable 0) (spec.Convert width.Long (spec.Number width.Int (pos 0)))) (spec.FieldOf spec.This (field 0) 0) (spec.Convert width.Long (spec.Number width.Int (pos 5)))) (spec.Convert width.Long (spec.Number width.Int (pos 0))))) (spec.Binary (binary.Compare compare.NotEqual width.Long) (spec.Binary (binary.Shift shift.Left width.Long) (spec.FieldOf spec.This (field 0) 0) (spec.Convert width.Int (spec.Number width.Long (pos 3)))) (spec.Convert width.Long (spec.Number width.Int (pos 1))))) (spec.Binary (binary.Compare compare.NotEqual width.Long) (spec.Unary (unary.Negate width.Long) (spec.FieldOf spec.This (field 0) 0)) (spec.Binary (binary.Arithmetic arithmetic.Remainder width.Long) (spec.Unary (unary.Complement width.Long) (spec.FieldOf spec.This (field 0) 0)) (spec.Convert width.Long (spec.Number width.Int (pos 3)))))) ∷ []) }
      ∷ record { kind = clauses.Assert; owner = (spec.OfMethod (method 6)); mode = modes.Java; is_static = true; place = record { line = 50; column = 9 }; states = ((spec.Or (spec.Binary (binary.Compare compare.Equal width.Long) (spec.Variable 2) (spec.Number width.Long (negsuc 9223372036854775807))) (spec.Binary (binary.Compare compare.Greater width.Long) (spec.Binary (binary.Arithmetic arithmetic.Add width.Long) (spec.Convert width.Long (spec.Variable 1)) (spec.Number width.Long (pos 1))) (spec.Convert width.Long (spec.Variable 1)))) ∷ []) }
      ∷ [];
  notes = [];
  texts = (codes "" ∷ codes " " ∷ codes "y " ∷ codes " " ∷ codes "zero" ∷ codes "null" ∷ codes "owner" ∷ codes "owner" ∷ []);
  main = (method 6);
}

guest_1 : List Answered
guest_1 =
    record { deed = deeds.Call (method 6) None []; reply = replies.Unit }
    ∷ record { deed = deeds.New (kinds.Object (class 0)); reply = replies.Made (object 3) }
    ∷ record { deed = deeds.Call (method 0) (Some (object 3)) ((values.Long (pos 2147483647)) ∷ []); reply = replies.Unit }
    ∷ record { deed = deeds.Put (cell (object 3) 0) (values.Long (pos 2147483647)); reply = replies.Unit }
    ∷ record { deed = deeds.New (kinds.Array elems.Long 3); reply = replies.Made (object 4) }
    ∷ record { deed = deeds.Put (cell (object 3) 1) (values.Ref (object 4)); reply = replies.Unit }
    ∷ record { deed = deeds.Leave (method 0) (leaves.Normal None); reply = replies.Unit }
    ∷ record { deed = deeds.Call (method 4) None ((values.Int (pos 4)) ∷ []); reply = replies.Unit }
    ∷ record { deed = deeds.Get (cell (object 2) 0); reply = replies.Value (values.Int (pos 0)) }
    ∷ record { deed = deeds.Put (cell (object 2) 0) (values.Int (pos 4)); reply = replies.Unit }
    ∷ record { deed = deeds.Leave (method 4) (leaves.Normal (Some (values.Int (pos 4)))); reply = replies.Unit }
    ∷ record { deed = deeds.Enter (object 3) ways.Method; reply = replies.Unit }
    ∷ record { deed = deeds.Call (method 1) (Some (object 3)) ((values.Long (pos 4)) ∷ []); reply = replies.Unit }
    ∷ record { deed = deeds.Get (cell (object 3) 0); reply = replies.Value (values.Long (pos 2147483647)) }
    ∷ record { deed = deeds.Put (cell (object 3) 0) (values.Long (pos 2147483651)); reply = replies.Unit }
    ∷ record { deed = deeds.Get (cell (object 3) 0); reply = replies.Value (values.Long (pos 2147483651)) }
    ∷ record { deed = deeds.Leave (method 1) (leaves.Normal (Some (values.Long (pos 2147483651)))); reply = replies.Unit }
    ∷ record { deed = deeds.Exit (object 3); reply = replies.Unit }
    ∷ record { deed = deeds.Call (method 2) (Some (object 3)) []; reply = replies.Unit }
    ∷ record { deed = deeds.Get (cell (object 3) 2); reply = replies.Value (values.Int (pos 2147483647)) }
    ∷ record { deed = deeds.Leave (method 2) (leaves.Normal (Some (values.Int (pos 2147483647)))); reply = replies.Unit }
    ∷ record { deed = deeds.Call (method 3) (Some (object 3)) []; reply = replies.Unit }
    ∷ record { deed = deeds.Get (cell (object 3) 2); reply = replies.Value (values.Int (pos 2147483647)) }
    ∷ record { deed = deeds.Leave (method 3) (leaves.Normal (Some (values.Long (pos 2147483647)))); reply = replies.Unit }
    ∷ record { deed = deeds.Get (cell (object 1) 0); reply = replies.Value (values.Long (pos 7)) }
    ∷ record { deed = deeds.Print (Text (text 0) ∷ Val (values.Long (pos 4294967298)) ∷ Text (text 1) ∷ Val (values.Long (pos 2147483647)) ∷ Val (values.Long (pos 7)) ∷ []); reply = replies.Unit }
    ∷ record { deed = deeds.Get (cell (object 3) 0); reply = replies.Value (values.Long (pos 2147483651)) }
    ∷ record { deed = deeds.Put (cell (object 3) 0) (values.Long (pos 25769803776)); reply = replies.Unit }
    ∷ record { deed = deeds.Get (cell (object 3) 0); reply = replies.Value (values.Long (pos 25769803776)) }
    ∷ record { deed = deeds.Put (cell (object 3) 0) (values.Long (pos 12884901888)); reply = replies.Unit }
    ∷ record { deed = deeds.Get (cell (object 3) 0); reply = replies.Value (values.Long (pos 12884901888)) }
    ∷ record { deed = deeds.Put (cell (object 3) 0) (values.Long (pos 0)); reply = replies.Unit }
    ∷ record { deed = deeds.Get (cell (object 3) 0); reply = replies.Value (values.Long (pos 0)) }
    ∷ record { deed = deeds.Put (cell (object 3) 0) (values.Long (pos 8)); reply = replies.Unit }
    ∷ record { deed = deeds.Get (cell (object 3) 0); reply = replies.Value (values.Long (pos 8)) }
    ∷ record { deed = deeds.Put (cell (object 3) 0) (values.Long (pos 8)); reply = replies.Unit }
    ∷ record { deed = deeds.Get (cell (object 3) 0); reply = replies.Value (values.Long (pos 8)) }
    ∷ record { deed = deeds.Put (cell (object 3) 0) (values.Long (pos 3)); reply = replies.Unit }
    ∷ record { deed = deeds.Get (cell (object 3) 0); reply = replies.Value (values.Long (pos 3)) }
    ∷ record { deed = deeds.Put (cell (object 3) 0) (values.Long (pos 6)); reply = replies.Unit }
    ∷ record { deed = deeds.Get (cell (object 3) 0); reply = replies.Value (values.Long (pos 6)) }
    ∷ record { deed = deeds.Put (cell (object 3) 0) (values.Long (pos 12884901882)); reply = replies.Unit }
    ∷ record { deed = deeds.Get (cell (object 3) 0); reply = replies.Value (values.Long (pos 12884901882)) }
    ∷ record { deed = deeds.Put (cell (object 3) 0) (values.Long (pos 4294967294)); reply = replies.Unit }
    ∷ record { deed = deeds.Get (cell (object 3) 0); reply = replies.Value (values.Long (pos 4294967294)) }
    ∷ record { deed = deeds.Print (Val (values.Long (pos 4294967294)) ∷ []); reply = replies.Unit }
    ∷ record { deed = deeds.Get (cell (object 3) 2); reply = replies.Value (values.Int (pos 2147483647)) }
    ∷ record { deed = deeds.Put (cell (object 3) 2) (values.Int (pos 2147483646)); reply = replies.Unit }
    ∷ record { deed = deeds.Get (cell (object 3) 2); reply = replies.Value (values.Int (pos 2147483646)) }
    ∷ record { deed = deeds.Print (Val (values.Int (pos 2147483646)) ∷ []); reply = replies.Unit }
    ∷ record { deed = deeds.Get (cell (object 3) 2); reply = replies.Value (values.Int (pos 2147483646)) }
    ∷ record { deed = deeds.Put (cell (object 3) 2) (values.Int (pos 2147483642)); reply = replies.Unit }
    ∷ record { deed = deeds.Get (cell (object 3) 2); reply = replies.Value (values.Int (pos 2147483642)) }
    ∷ record { deed = deeds.Put (cell (object 3) 2) (values.Int (pos 1442450938)); reply = replies.Unit }
    ∷ record { deed = deeds.Get (cell (object 3) 2); reply = replies.Value (values.Int (pos 1442450938)) }
    ∷ record { deed = deeds.Put (cell (object 3) 2) (values.Int (pos 206064419)); reply = replies.Unit }
    ∷ record { deed = deeds.Get (cell (object 3) 2); reply = replies.Value (values.Int (pos 206064419)) }
    ∷ record { deed = deeds.Put (cell (object 3) 2) (values.Int (pos 19)); reply = replies.Unit }
    ∷ record { deed = deeds.Get (cell (object 3) 2); reply = replies.Value (values.Int (pos 19)) }
    ∷ record { deed = deeds.Put (cell (object 3) 2) (values.Int (pos 19)); reply = replies.Unit }
    ∷ record { deed = deeds.Get (cell (object 3) 2); reply = replies.Value (values.Int (pos 19)) }
    ∷ record { deed = deeds.Put (cell (object 3) 2) (values.Int (pos 19)); reply = replies.Unit }
    ∷ record { deed = deeds.Get (cell (object 3) 2); reply = replies.Value (values.Int (pos 19)) }
    ∷ record { deed = deeds.Put (cell (object 3) 2) (values.Int (negsuc 19)); reply = replies.Unit }
    ∷ record { deed = deeds.Get (cell (object 3) 2); reply = replies.Value (values.Int (negsuc 19)) }
    ∷ record { deed = deeds.Put (cell (object 3) 2) (values.Int (negsuc 39)); reply = replies.Unit }
    ∷ record { deed = deeds.Get (cell (object 3) 2); reply = replies.Value (values.Int (negsuc 39)) }
    ∷ record { deed = deeds.Put (cell (object 3) 2) (values.Int (negsuc 19)); reply = replies.Unit }
    ∷ record { deed = deeds.Get (cell (object 3) 2); reply = replies.Value (values.Int (negsuc 19)) }
    ∷ record { deed = deeds.Put (cell (object 3) 2) (values.Int (pos 1)); reply = replies.Unit }
    ∷ record { deed = deeds.Get (cell (object 3) 2); reply = replies.Value (values.Int (pos 1)) }
    ∷ record { deed = deeds.Print (Val (values.Int (pos 1)) ∷ []); reply = replies.Unit }
    ∷ record { deed = deeds.Print (Val (values.Int (pos 10)) ∷ []); reply = replies.Unit }
    ∷ record { deed = deeds.Print (Text (text 2) ∷ Val (values.Long (pos 6)) ∷ Text (text 3) ∷ Val (values.Int (pos 3)) ∷ []); reply = replies.Unit }
    ∷ record { deed = deeds.Print (Val (values.Long (negsuc 2147483646)) ∷ []); reply = replies.Unit }
    ∷ record { deed = deeds.Print (Val (values.Long (pos 2147483649)) ∷ []); reply = replies.Unit }
    ∷ record { deed = deeds.Print (Val (values.Long (negsuc 9223372036854775807)) ∷ []); reply = replies.Unit }
    ∷ record { deed = deeds.Print (Val (values.Long (pos 0)) ∷ []); reply = replies.Unit }
    ∷ record { deed = deeds.Print (Val (values.Long (pos 145474192)) ∷ []); reply = replies.Unit }
    ∷ record { deed = deeds.Print (Val (values.Long (negsuc 9223371968135299047)) ∷ []); reply = replies.Unit }
    ∷ record { deed = deeds.Print (Val (values.Int (negsuc 2147483647)) ∷ []); reply = replies.Unit }
    ∷ record { deed = deeds.Print (Val (values.Long (pos 3)) ∷ []); reply = replies.Unit }
    ∷ record { deed = deeds.Print (Val (values.Bool true) ∷ []); reply = replies.Unit }
    ∷ record { deed = deeds.Get (cell (object 3) 1); reply = replies.Value (values.Ref (object 4)) }
    ∷ record { deed = deeds.Call (method 4) None ((values.Int (pos 1)) ∷ []); reply = replies.Unit }
    ∷ record { deed = deeds.Get (cell (object 2) 0); reply = replies.Value (values.Int (pos 4)) }
    ∷ record { deed = deeds.Put (cell (object 2) 0) (values.Int (pos 41)); reply = replies.Unit }
    ∷ record { deed = deeds.Leave (method 4) (leaves.Normal (Some (values.Int (pos 1)))); reply = replies.Unit }
    ∷ record { deed = deeds.Call (method 4) None ((values.Int (pos 2)) ∷ []); reply = replies.Unit }
    ∷ record { deed = deeds.Get (cell (object 2) 0); reply = replies.Value (values.Int (pos 41)) }
    ∷ record { deed = deeds.Put (cell (object 2) 0) (values.Int (pos 412)); reply = replies.Unit }
    ∷ record { deed = deeds.Leave (method 4) (leaves.Normal (Some (values.Int (pos 2)))); reply = replies.Unit }
    ∷ record { deed = deeds.Put (cell (object 4) 1) (values.Long (pos 2)); reply = replies.Unit }
    ∷ record { deed = deeds.Get (cell (object 3) 1); reply = replies.Value (values.Ref (object 4)) }
    ∷ record { deed = deeds.Get (cell (object 4) 1); reply = replies.Value (values.Long (pos 2)) }
    ∷ record { deed = deeds.Put (cell (object 4) 1) (values.Long (pos 3)); reply = replies.Unit }
    ∷ record { deed = deeds.Get (cell (object 3) 1); reply = replies.Value (values.Ref (object 4)) }
    ∷ record { deed = deeds.Get (cell (object 3) 1); reply = replies.Value (values.Ref (object 4)) }
    ∷ record { deed = deeds.Get (cell (object 4) 1); reply = replies.Value (values.Long (pos 3)) }
    ∷ record { deed = deeds.Put (cell (object 4) 1) (values.Long (pos 2)); reply = replies.Unit }
    ∷ record { deed = deeds.Get (cell (object 3) 1); reply = replies.Value (values.Ref (object 4)) }
    ∷ record { deed = deeds.Get (cell (object 4) 0); reply = replies.Value (values.Long (pos 0)) }
    ∷ record { deed = deeds.Put (cell (object 4) 0) (values.Long (pos 1)); reply = replies.Unit }
    ∷ record { deed = deeds.Get (cell (object 3) 1); reply = replies.Value (values.Ref (object 4)) }
    ∷ record { deed = deeds.Len (object 4); reply = replies.Value (values.Int (pos 3)) }
    ∷ record { deed = deeds.Put (cell (object 4) 2) (values.Long (pos 7)); reply = replies.Unit }
    ∷ record { deed = deeds.Get (cell (object 3) 1); reply = replies.Value (values.Ref (object 4)) }
    ∷ record { deed = deeds.Get (cell (object 4) 2); reply = replies.Value (values.Long (pos 7)) }
    ∷ record { deed = deeds.Print (Val (values.Long (pos 7)) ∷ []); reply = replies.Unit }
    ∷ record { deed = deeds.Print (Text (text 4) ∷ []); reply = replies.Unit }
    ∷ record { deed = deeds.Print (Val (values.Int (pos 3)) ∷ []); reply = replies.Unit }
    ∷ record { deed = deeds.Assert (clause 3) (values.Null ∷ (values.Ref (object 3)) ∷ (values.Int (pos 3)) ∷ (values.Long (pos 6)) ∷ []); reply = replies.Unit }
    ∷ record { deed = deeds.Get (cell (object 3) 1); reply = replies.Value (values.Ref (object 4)) }
    ∷ record { deed = deeds.Get (cell (object 4) 4294967295); reply = replies.Range }
    ∷ record { deed = deeds.Get (cell (object 2) 0); reply = replies.Value (values.Int (pos 412)) }
    ∷ record { deed = deeds.Print (Val (values.Int (pos 412)) ∷ []); reply = replies.Unit }
    ∷ record { deed = deeds.Get (cell (object 2) 1); reply = replies.Value values.Null }
    ∷ record { deed = deeds.Call (method 4) None ((values.Int (pos 6)) ∷ []); reply = replies.Unit }
    ∷ record { deed = deeds.Get (cell (object 2) 0); reply = replies.Value (values.Int (pos 412)) }
    ∷ record { deed = deeds.Put (cell (object 2) 0) (values.Int (pos 4126)); reply = replies.Unit }
    ∷ record { deed = deeds.Leave (method 4) (leaves.Normal (Some (values.Int (pos 6)))); reply = replies.Unit }
    ∷ record { deed = deeds.Get (cell (object 2) 0); reply = replies.Value (values.Int (pos 4126)) }
    ∷ record { deed = deeds.Print (Val (values.Int (pos 4126)) ∷ []); reply = replies.Unit }
    ∷ record { deed = deeds.Get (cell (object 2) 1); reply = replies.Value values.Null }
    ∷ record { deed = deeds.Print (Text (text 5) ∷ []); reply = replies.Unit }
    ∷ record { deed = deeds.New kinds.Plain; reply = replies.Made (object 5) }
    ∷ record { deed = deeds.Put (cell (object 2) 1) (values.Ref (object 5)); reply = replies.Unit }
    ∷ record { deed = deeds.Get (cell (object 2) 1); reply = replies.Value (values.Ref (object 5)) }
    ∷ record { deed = deeds.Call (method 4) None ((values.Int (negsuc 6)) ∷ []); reply = replies.Unit }
    ∷ record { deed = deeds.Get (cell (object 2) 0); reply = replies.Value (values.Int (pos 4126)) }
    ∷ record { deed = deeds.Put (cell (object 2) 0) (values.Int (pos 41253)); reply = replies.Unit }
    ∷ record { deed = deeds.Leave (method 4) (leaves.Normal (Some (values.Int (negsuc 6)))); reply = replies.Unit }
    ∷ record { deed = deeds.Get (cell (object 2) 0); reply = replies.Value (values.Int (pos 41253)) }
    ∷ record { deed = deeds.Print (Val (values.Int (pos 41253)) ∷ []); reply = replies.Unit }
    ∷ record { deed = deeds.Get (cell (object 2) 1); reply = replies.Value (values.Ref (object 5)) }
    ∷ record { deed = deeds.TimedWait (object 5); reply = replies.Illegal }
    ∷ record { deed = deeds.Print (Text (text 6) ∷ []); reply = replies.Unit }
    ∷ record { deed = deeds.Get (cell (object 2) 1); reply = replies.Value (values.Ref (object 5)) }
    ∷ record { deed = deeds.Wait (object 5); reply = replies.Illegal }
    ∷ record { deed = deeds.Print (Text (text 7) ∷ []); reply = replies.Unit }
    ∷ record { deed = deeds.New (kinds.Object (class 1)); reply = replies.Made (object 6) }
    ∷ record { deed = deeds.New kinds.Thread; reply = replies.Made (object 7) }
    ∷ record { deed = deeds.Put (cell (object 7) 0) (values.Ref (object 6)); reply = replies.Unit }
    ∷ record { deed = deeds.Start (object 7); reply = replies.Started (guest 2) (Some (record { method = (method 5); this = (Some (object 6)) })) }
    ∷ record { deed = deeds.Enter (object 6) ways.Block; reply = replies.Unit }
    ∷ record { deed = deeds.Call (method 4) None ((values.Int (pos 8)) ∷ []); reply = replies.Unit }
    ∷ record { deed = deeds.Get (cell (object 2) 0); reply = replies.Value (values.Int (pos 41253)) }
    ∷ record { deed = deeds.Put (cell (object 2) 0) (values.Int (pos 412538)); reply = replies.Unit }
    ∷ record { deed = deeds.Leave (method 4) (leaves.Normal (Some (values.Int (pos 8)))); reply = replies.Unit }
    ∷ record { deed = deeds.TimedWait (object 6); reply = replies.Unit }
    ∷ record { deed = deeds.Resume (object 6); reply = replies.Unit }
    ∷ record { deed = deeds.Exit (object 6); reply = replies.Unit }
    ∷ record { deed = deeds.Join (object 7); reply = replies.Unit }
    ∷ record { deed = deeds.Get (cell (object 2) 1); reply = replies.Value (values.Ref (object 5)) }
    ∷ record { deed = deeds.Enter (object 5) ways.Block; reply = replies.Unit }
    ∷ record { deed = deeds.Get (cell (object 2) 1); reply = replies.Value (values.Ref (object 5)) }
    ∷ record { deed = deeds.TimedWait (object 5); reply = replies.Unit }
    ∷ record { deed = deeds.Resume (object 5); reply = replies.Unit }
    ∷ record { deed = deeds.Exit (object 5); reply = replies.Unit }
    ∷ record { deed = deeds.Print (Val (values.Long (pos 0)) ∷ []); reply = replies.Unit }
    ∷ record { deed = deeds.Back; reply = replies.Unit }
    ∷ record { deed = deeds.Get (cell (object 3) 1); reply = replies.Value (values.Ref (object 4)) }
    ∷ record { deed = deeds.Put (cell (object 4) 0) (values.Long (pos 2147483647)); reply = replies.Unit }
    ∷ record { deed = deeds.Get (cell (object 3) 1); reply = replies.Value (values.Ref (object 4)) }
    ∷ record { deed = deeds.Get (cell (object 4) 0); reply = replies.Value (values.Long (pos 2147483647)) }
    ∷ record { deed = deeds.Put (cell (object 4) 0) (values.Long (pos 2147483648)); reply = replies.Unit }
    ∷ record { deed = deeds.Get (cell (object 3) 1); reply = replies.Value (values.Ref (object 4)) }
    ∷ record { deed = deeds.Get (cell (object 4) 0); reply = replies.Value (values.Long (pos 2147483648)) }
    ∷ record { deed = deeds.Put (cell (object 4) 0) (values.Long (pos 2147483649)); reply = replies.Unit }
    ∷ record { deed = deeds.Print (Val (values.Long (pos 2147483649)) ∷ []); reply = replies.Unit }
    ∷ record { deed = deeds.Get (cell (object 3) 1); reply = replies.Value (values.Ref (object 4)) }
    ∷ record { deed = deeds.Get (cell (object 4) 0); reply = replies.Value (values.Long (pos 2147483649)) }
    ∷ record { deed = deeds.Put (cell (object 4) 0) (values.Long (pos 2147483648)); reply = replies.Unit }
    ∷ record { deed = deeds.Print (Val (values.Long (pos 2147483649)) ∷ []); reply = replies.Unit }
    ∷ record { deed = deeds.Put (cell (object 1) 0) (values.Long (negsuc 9223372036854775807)); reply = replies.Unit }
    ∷ record { deed = deeds.Get (cell (object 1) 0); reply = replies.Value (values.Long (negsuc 9223372036854775807)) }
    ∷ record { deed = deeds.Put (cell (object 1) 0) (values.Long (pos 9223372036854775807)); reply = replies.Unit }
    ∷ record { deed = deeds.Get (cell (object 1) 0); reply = replies.Value (values.Long (pos 9223372036854775807)) }
    ∷ record { deed = deeds.Put (cell (object 1) 0) (values.Long (pos 9223372036854775806)); reply = replies.Unit }
    ∷ record { deed = deeds.Print (Val (values.Long (negsuc 1)) ∷ []); reply = replies.Unit }
    ∷ record { deed = deeds.Put (cell (object 3) 2) (values.Int (pos 2147483647)); reply = replies.Unit }
    ∷ record { deed = deeds.Get (cell (object 3) 2); reply = replies.Value (values.Int (pos 2147483647)) }
    ∷ record { deed = deeds.Put (cell (object 3) 2) (values.Int (negsuc 2147483647)); reply = replies.Unit }
    ∷ record { deed = deeds.Print (Val (values.Int (negsuc 2147483647)) ∷ []); reply = replies.Unit }
    ∷ record { deed = deeds.Get (cell (object 3) 2); reply = replies.Value (values.Int (negsuc 2147483647)) }
    ∷ record { deed = deeds.Put (cell (object 3) 2) (values.Int (pos 2147483647)); reply = replies.Unit }
    ∷ record { deed = deeds.Print (Val (values.Int (negsuc 2147483647)) ∷ []); reply = replies.Unit }
    ∷ record { deed = deeds.Get (cell (object 3) 2); reply = replies.Value (values.Int (pos 2147483647)) }
    ∷ record { deed = deeds.Print (Val (values.Int (pos 2147483647)) ∷ []); reply = replies.Unit }
    ∷ record { deed = deeds.Leave (method 6) (leaves.Normal None); reply = replies.Unit }
    ∷ record { deed = deeds.End ends.Normal; reply = replies.Unit }
    ∷ []

guest_1_does : does program (Some (record { method = (method 6); this = None })) guest_1 ≡ each_of guest_1 Ended
unfolding program guest_1 int_wrap
guest_1_does = refl

guest_2 : List Answered
guest_2 =
    record { deed = deeds.Call (method 5) (Some (object 6)) []; reply = replies.Unit }
    ∷ record { deed = deeds.Enter (object 6) ways.Block; reply = replies.Unit }
    ∷ record { deed = deeds.TimedWait (object 6); reply = replies.Unit }
    ∷ record { deed = deeds.Resume (object 6); reply = replies.Unit }
    ∷ record { deed = deeds.NotifyAll (object 6); reply = replies.Unit }
    ∷ record { deed = deeds.Exit (object 6); reply = replies.Unit }
    ∷ record { deed = deeds.Leave (method 5) (leaves.Normal None); reply = replies.Unit }
    ∷ record { deed = deeds.End ends.Normal; reply = replies.Unit }
    ∷ []

guest_2_does : does program (Some (record { method = (method 5); this = (Some (object 6)) })) guest_2 ≡ each_of guest_2 Ended
unfolding program guest_2 int_wrap
guest_2_does = refl
