-- A program and its run by the serial rule with seed 0.
--     class Box {
--       long n = -9223372036854775808L;
--       static long total = 7;
--       long[] a;
--       int i = 2147483647;
--       Box(long n) { this.n = n; a = new long[3]; }
--       //@ requires k <= 9223372036854775807L && -9223372036854775808L < k + n;
--       //@ ensures \result == \old(n) + k && (k > 0 ? n : 5) != 0 && n << 3L != 1 && -n != ~n % 3;
--       /*@ spec_safe_math @*/ synchronized long add(long k) { n += k; return n; }
--       int low() { return i; }
--       long wide() { return i; }
--     }
--     class Main implements Runnable {
--       static int count;
--       static int side(int k) { count = count * 10 + k; return k; }
--       static Object lock = null;
--       public void run() {
--         synchronized (this) {
--           try { wait(3L); } catch (InterruptedException e) { }
--           notifyAll();
--         }
--       }
--       public static void main(String[] args) throws InterruptedException {
--         Box b = new Box(2147483647);
--         System.out.println("" + (b.add(side(4)) + b.low()) + " " + b.wide() + Box.total);
--         b.n <<= 33; b.n >>= 65L; b.n >>>= 60; b.n |= 8; b.n &= ~1; b.n %= 5L; b.n -= -3; b.n *= 2147483647; b.n /= 3;
--         System.out.println(b.n);
--         b.i += 9223372036854775807L; System.out.println(b.i);
--         b.i *= 3L; b.i -= 5000000000L; b.i /= 7L; b.i %= 100L; b.i |= 4294967296L; b.i &= 4294967295L; b.i ^= -1L; b.i <<= 33L; b.i >>= 1; b.i >>>= -1L;
--         System.out.println(b.i);
--         int x = 7;
--         System.out.println(x += 4294967299L);
--         long y = x = 3;
--         y = y++ + ++y; y--; --y;
--         System.out.println("y " + y + " " + x);
--         System.out.println(2147483647 + 1 + 1L);
--         System.out.println(2147483647 + 1L + 1);
--         System.out.println(-9223372036854775808L / -1);
--         System.out.println(-9223372036854775808L % -1L);
--         System.out.println(-(-9223372036854775808L) + 3037000500L * 3037000500L);
--         System.out.println((-17L >>> 28) + (-17 >>> 28) + (-17L >> 2) + (1L << 31) + (1 << 31L) + (1L << 63) + (~17L & 12 ^ 3));
--         System.out.println(1 << -1L);
--         System.out.println(true ? x : y);
--         System.out.println(x == 3L && 3L != y && x < 4L && 2L <= x && y > 1 && y >= x);
--         b.a[side(1)] = side(2);
--         b.a[1]++; b.a[2] = b.a[1]-- + ++b.a[0] + b.a.length;
--         System.out.println(b.a[2]);
--         try { y = 1 / (y - y); } catch (ArithmeticException e) { System.out.println("zero"); }
--         try { x %= 0L; } catch (ArithmeticException e) { System.out.println(x); }
--         //@ assert y == -9223372036854775808L || x + 1L > x;
--         try { b.a[-1] += side(5); } catch (ArrayIndexOutOfBoundsException e) { System.out.println(count); }
--         try { lock.wait(side(6)); } catch (NullPointerException e) { System.out.println(count); }
--         try { lock.wait(-1L); } catch (NullPointerException e) { System.out.println("null"); }
--         lock = new Object();
--         try { lock.wait(side(-7)); } catch (IllegalArgumentException e) { System.out.println(count); }
--         try { lock.wait(5000000000L); } catch (IllegalMonitorStateException e) { System.out.println("owner"); }
--         try { lock.wait(0); } catch (IllegalMonitorStateException e) { System.out.println("owner"); }
--         Main m = new Main();
--         Thread t = new Thread(m);
--         t.start();
--         synchronized (m) { m.wait(side(8)); }
--         t.join();
--         synchronized (lock) { lock.wait(0L + 1); }
--         long z; System.out.println(z);
--         Thread.sleep(1);
--         b.a[0] = 2147483647; b.a[0]++; System.out.println(++b.a[0]); System.out.println(b.a[0]--);
--         Box.total = -9223372036854775808L; System.out.println(Box.total-- + --Box.total);
--         b.i = 2147483647; System.out.println(++b.i); System.out.println(b.i--); System.out.println(b.i);
--       }
--     }
use Rattle.std.specs.Prelude.{◌≡◌, pos, negsuc, true, false, List, [], ◌∷◌, Some, None}
use Rattle.jr_base.specs.Deed.{Deed}
use Rattle.jr_base.specs.Deed as deeds
use Rattle.jr_base.specs.declared.action.Elem.TheVariants as elems
use Rattle.jr_base.specs.declared.action.NewKind.TheVariants as makes
use Rattle.jr_base.specs.declared.action.Reply.TheVariants as replies
use Rattle.jr_base.specs.declared.action.LeaveHow.TheVariants as leaves
use Rattle.jr_base.specs.declared.action.EndHow.TheVariants as ends
use Rattle.jr_base.specs.declared.action.Way.TheVariants as ways
use Rattle.jr_base.specs.declared.action.PrintPart.TheVariants as shows
use Rattle.jr_base.specs.declared.value.Value.TheVariants as values
use Rattle.jr_base.specs.declared.finish.Fault.TheVariants as faults
use Rattle.jr_base.specs.declared.finish.Verdict.TheVariants as verdicts
use Rattle.jr_base.specs.declared.finish.Finish.{Finish}
use Rattle.jr_base.specs.declared.finish.Finish.TheVariants as finishes
use Rattle.jr_base.specs.declared.kind.SlotKind.TheVariants as kinds
use Rattle.jr_arith.specs.declared.operator.Width.TheVariants as widths
use Rattle.jr_arith.specs.declared.operator.Arithmetic.TheVariants as arithmetics
use Rattle.jr_arith.specs.declared.operator.Bitwise.TheVariants as bitwises
use Rattle.jr_arith.specs.declared.operator.Shift.TheVariants as shifts
use Rattle.jr_arith.specs.declared.operator.Comparison.TheVariants as comparisons
use Rattle.jr_program.specs.declared.words.Mode.TheVariants as modes
use Rattle.jr_arith.specs.declared.operator.Unary.TheVariants as unaries
use Rattle.jr_arith.specs.declared.operator.Binary.TheVariants as binaries
use Rattle.jr_base.specs.declared.kind.ObjectCall.TheVariants as calls
use Rattle.jr_program.specs.declared.words.ClauseKind.TheVariants as clauses
use Rattle.jr_program.specs.Clauses as specs
use Rattle.jr_program.specs.Programs as code
use Rattle.jr_program.specs.Programs.{Program}
use Rattle.jr_meaning.specs.Event.{Event}
use Rattle.jr_meaning.specs.Right.{IsRightRun}
use Rattle.jr_meaning.specs.Serial.{serial}
use Rattle.jr_meaning.proofs.SerialRuns.{serial-right}
use Rattle.jr_meaning.proofs.Runs.{made, judged, woke}
use Rattle.std.proofs.Common.{refl, subst}
use Rattle.std.specs.Int.{int_wrap}

abbrev pub program : Program
program = record {
  classes =
      record { name = []; extends_thread = false; implements_runnable = false; run = None; constructor = (Some (record { 0 = 0 })) }
      ∷ record { name = []; extends_thread = false; implements_runnable = true; run = (Some (record { 0 = 5 })); constructor = None }
      ∷ [];
  fields =
      record { class = (record { 0 = 0 }); is_static = false; is_volatile = false; kind = kinds.Long; constant = (values.Long (negsuc 9223372036854775807)) }
      ∷ record { class = (record { 0 = 0 }); is_static = true; is_volatile = false; kind = kinds.Long; constant = (values.Long (pos 7)) }
      ∷ record { class = (record { 0 = 0 }); is_static = false; is_volatile = false; kind = kinds.Ref; constant = values.Null }
      ∷ record { class = (record { 0 = 0 }); is_static = false; is_volatile = false; kind = kinds.Int; constant = (values.Int (pos 2147483647)) }
      ∷ record { class = (record { 0 = 1 }); is_static = true; is_volatile = false; kind = kinds.Int; constant = (values.Int (pos 0)) }
      ∷ record { class = (record { 0 = 1 }); is_static = true; is_volatile = false; kind = kinds.Ref; constant = values.Null }
      ∷ [];
  methods =
      record {
        name = [];
        class = (record { 0 = 0 });
        is_static = false;
        is_constructor = true;
        is_synchronized = false;
        is_helper = false;
        formals = (kinds.Long ∷ []);
        locals = [];
        result = None;
        body = (code.Then (code.Do (code.Evaluate (code.Assign (code.FieldOf code.This (record { 0 = 0 })) (code.Read (code.Local 0))))) (code.Do (code.Evaluate (code.Assign (code.FieldOf code.This (record { 0 = 2 })) (code.NewArray elems.Long (code.Number widths.Int (pos 3)))))));
      }
      ∷ record {
        name = [];
        class = (record { 0 = 0 });
        is_static = false;
        is_constructor = false;
        is_synchronized = true;
        is_helper = false;
        formals = (kinds.Long ∷ []);
        locals = [];
        result = (Some kinds.Long);
        body = (code.Then (code.Do (code.Evaluate (code.Compound (binaries.Arithmetic arithmetics.Add widths.Long) false (code.FieldOf code.This (record { 0 = 0 })) (code.Read (code.Local 0))))) (code.ReturnValue (code.Read (code.FieldOf code.This (record { 0 = 0 })))));
      }
      ∷ record {
        name = [];
        class = (record { 0 = 0 });
        is_static = false;
        is_constructor = false;
        is_synchronized = false;
        is_helper = false;
        formals = [];
        locals = [];
        result = (Some kinds.Int);
        body = (code.ReturnValue (code.Read (code.FieldOf code.This (record { 0 = 3 }))));
      }
      ∷ record {
        name = [];
        class = (record { 0 = 0 });
        is_static = false;
        is_constructor = false;
        is_synchronized = false;
        is_helper = false;
        formals = [];
        locals = [];
        result = (Some kinds.Long);
        body = (code.ReturnValue (code.Convert widths.Long (code.Read (code.FieldOf code.This (record { 0 = 3 })))));
      }
      ∷ record {
        name = [];
        class = (record { 0 = 1 });
        is_static = true;
        is_constructor = false;
        is_synchronized = false;
        is_helper = false;
        formals = (kinds.Int ∷ []);
        locals = [];
        result = (Some kinds.Int);
        body = (code.Then (code.Do (code.Evaluate (code.Assign (code.StaticField (record { 0 = 4 })) (code.Binary (binaries.Arithmetic arithmetics.Add widths.Int) (code.Binary (binaries.Arithmetic arithmetics.Multiply widths.Int) (code.Read (code.StaticField (record { 0 = 4 }))) (code.Number widths.Int (pos 10))) (code.Read (code.Local 0)))))) (code.ReturnValue (code.Read (code.Local 0))));
      }
      ∷ record {
        name = [];
        class = (record { 0 = 1 });
        is_static = false;
        is_constructor = false;
        is_synchronized = false;
        is_helper = false;
        formals = [];
        locals = (kinds.Caught ∷ []);
        result = None;
        body = (code.Synchronized code.This (code.Then (code.Try (code.Do (code.WaitFor code.This (code.Number widths.Long (pos 3)))) (code.or_catch faults.InterruptedException 0 code.Skip code.no_catch)) (code.Do (code.CallObject calls.NotifyAll code.This))));
      }
      ∷ record {
        name = [];
        class = (record { 0 = 1 });
        is_static = true;
        is_constructor = false;
        is_synchronized = false;
        is_helper = false;
        formals = [];
        locals = (kinds.Ref ∷ kinds.Int ∷ kinds.Long ∷ kinds.Caught ∷ kinds.Caught ∷ kinds.Caught ∷ kinds.Caught ∷ kinds.Caught ∷ kinds.Caught ∷ kinds.Caught ∷ kinds.Caught ∷ kinds.Ref ∷ kinds.Ref ∷ kinds.Long ∷ []);
        result = None;
        body = (code.Then (code.Declare 0 (code.NewObject (record { 0 = 0 }) (code.and_then (code.Convert widths.Long (code.Number widths.Int (pos 2147483647))) code.no_more))) (code.Then (code.Println ((code.Literal (record { 0 = 0 })) ∷ (code.Shown (code.Binary (binaries.Arithmetic arithmetics.Add widths.Long) (code.ResultOf (code.CallOn (code.Read (code.Local 0)) (record { 0 = 1 }) (code.and_then (code.Convert widths.Long (code.ResultOf (code.CallStatic (record { 0 = 4 }) (code.and_then (code.Number widths.Int (pos 4)) code.no_more)))) code.no_more))) (code.Convert widths.Long (code.ResultOf (code.CallOn (code.Read (code.Local 0)) (record { 0 = 2 }) code.no_more))))) ∷ (code.Literal (record { 0 = 1 })) ∷ (code.Shown (code.ResultOf (code.CallOn (code.Read (code.Local 0)) (record { 0 = 3 }) code.no_more))) ∷ (code.Shown (code.Read (code.StaticField (record { 0 = 1 })))) ∷ [])) (code.Then (code.Do (code.Evaluate (code.Compound (binaries.Shift shifts.Left widths.Long) false (code.FieldOf (code.Read (code.Local 0)) (record { 0 = 0 })) (code.Number widths.Int (pos 33))))) (code.Then (code.Do (code.Evaluate (code.Compound (binaries.Shift shifts.Right widths.Long) false (code.FieldOf (code.Read (code.Local 0)) (record { 0 = 0 })) (code.Convert widths.Int (code.Number widths.Long (pos 65)))))) (code.Then (code.Do (code.Evaluate (code.Compound (binaries.Shift shifts.RightUnsigned widths.Long) false (code.FieldOf (code.Read (code.Local 0)) (record { 0 = 0 })) (code.Number widths.Int (pos 60))))) (code.Then (code.Do (code.Evaluate (code.Compound (binaries.Bitwise bitwises.Or widths.Long) false (code.FieldOf (code.Read (code.Local 0)) (record { 0 = 0 })) (code.Convert widths.Long (code.Number widths.Int (pos 8)))))) (code.Then (code.Do (code.Evaluate (code.Compound (binaries.Bitwise bitwises.And widths.Long) false (code.FieldOf (code.Read (code.Local 0)) (record { 0 = 0 })) (code.Convert widths.Long (code.Unary (unaries.Complement widths.Int) (code.Number widths.Int (pos 1))))))) (code.Then (code.Do (code.Evaluate (code.Compound (binaries.Arithmetic arithmetics.Remainder widths.Long) false (code.FieldOf (code.Read (code.Local 0)) (record { 0 = 0 })) (code.Number widths.Long (pos 5))))) (code.Then (code.Do (code.Evaluate (code.Compound (binaries.Arithmetic arithmetics.Subtract widths.Long) false (code.FieldOf (code.Read (code.Local 0)) (record { 0 = 0 })) (code.Convert widths.Long (code.Number widths.Int (negsuc 2)))))) (code.Then (code.Do (code.Evaluate (code.Compound (binaries.Arithmetic arithmetics.Multiply widths.Long) false (code.FieldOf (code.Read (code.Local 0)) (record { 0 = 0 })) (code.Convert widths.Long (code.Number widths.Int (pos 2147483647)))))) (code.Then (code.Do (code.Evaluate (code.Compound (binaries.Arithmetic arithmetics.Divide widths.Long) false (code.FieldOf (code.Read (code.Local 0)) (record { 0 = 0 })) (code.Convert widths.Long (code.Number widths.Int (pos 3)))))) (code.Then (code.Println ((code.Shown (code.Read (code.FieldOf (code.Read (code.Local 0)) (record { 0 = 0 })))) ∷ [])) (code.Then (code.Do (code.Evaluate (code.Compound (binaries.Arithmetic arithmetics.Add widths.Long) true (code.FieldOf (code.Read (code.Local 0)) (record { 0 = 3 })) (code.Number widths.Long (pos 9223372036854775807))))) (code.Then (code.Println ((code.Shown (code.Read (code.FieldOf (code.Read (code.Local 0)) (record { 0 = 3 })))) ∷ [])) (code.Then (code.Do (code.Evaluate (code.Compound (binaries.Arithmetic arithmetics.Multiply widths.Long) true (code.FieldOf (code.Read (code.Local 0)) (record { 0 = 3 })) (code.Number widths.Long (pos 3))))) (code.Then (code.Do (code.Evaluate (code.Compound (binaries.Arithmetic arithmetics.Subtract widths.Long) true (code.FieldOf (code.Read (code.Local 0)) (record { 0 = 3 })) (code.Number widths.Long (pos 5000000000))))) (code.Then (code.Do (code.Evaluate (code.Compound (binaries.Arithmetic arithmetics.Divide widths.Long) true (code.FieldOf (code.Read (code.Local 0)) (record { 0 = 3 })) (code.Number widths.Long (pos 7))))) (code.Then (code.Do (code.Evaluate (code.Compound (binaries.Arithmetic arithmetics.Remainder widths.Long) true (code.FieldOf (code.Read (code.Local 0)) (record { 0 = 3 })) (code.Number widths.Long (pos 100))))) (code.Then (code.Do (code.Evaluate (code.Compound (binaries.Bitwise bitwises.Or widths.Long) true (code.FieldOf (code.Read (code.Local 0)) (record { 0 = 3 })) (code.Number widths.Long (pos 4294967296))))) (code.Then (code.Do (code.Evaluate (code.Compound (binaries.Bitwise bitwises.And widths.Long) true (code.FieldOf (code.Read (code.Local 0)) (record { 0 = 3 })) (code.Number widths.Long (pos 4294967295))))) (code.Then (code.Do (code.Evaluate (code.Compound (binaries.Bitwise bitwises.Xor widths.Long) true (code.FieldOf (code.Read (code.Local 0)) (record { 0 = 3 })) (code.Number widths.Long (negsuc 0))))) (code.Then (code.Do (code.Evaluate (code.Compound (binaries.Shift shifts.Left widths.Int) false (code.FieldOf (code.Read (code.Local 0)) (record { 0 = 3 })) (code.Convert widths.Int (code.Number widths.Long (pos 33)))))) (code.Then (code.Do (code.Evaluate (code.Compound (binaries.Shift shifts.Right widths.Int) false (code.FieldOf (code.Read (code.Local 0)) (record { 0 = 3 })) (code.Number widths.Int (pos 1))))) (code.Then (code.Do (code.Evaluate (code.Compound (binaries.Shift shifts.RightUnsigned widths.Int) false (code.FieldOf (code.Read (code.Local 0)) (record { 0 = 3 })) (code.Convert widths.Int (code.Number widths.Long (negsuc 0)))))) (code.Then (code.Println ((code.Shown (code.Read (code.FieldOf (code.Read (code.Local 0)) (record { 0 = 3 })))) ∷ [])) (code.Then (code.Declare 1 (code.Number widths.Int (pos 7))) (code.Then (code.Println ((code.Shown (code.Compound (binaries.Arithmetic arithmetics.Add widths.Long) true (code.Local 1) (code.Number widths.Long (pos 4294967299)))) ∷ [])) (code.Then (code.Declare 2 (code.Convert widths.Long (code.Assign (code.Local 1) (code.Number widths.Int (pos 3))))) (code.Then (code.Do (code.Evaluate (code.Assign (code.Local 2) (code.Binary (binaries.Arithmetic arithmetics.Add widths.Long) (code.PostfixIncrement widths.Long (code.Local 2) (pos 1)) (code.PrefixIncrement widths.Long (code.Local 2) (pos 1)))))) (code.Then (code.Do (code.Evaluate (code.PostfixIncrement widths.Long (code.Local 2) (negsuc 0)))) (code.Then (code.Do (code.Evaluate (code.PrefixIncrement widths.Long (code.Local 2) (negsuc 0)))) (code.Then (code.Println ((code.Literal (record { 0 = 2 })) ∷ (code.Shown (code.Read (code.Local 2))) ∷ (code.Literal (record { 0 = 3 })) ∷ (code.Shown (code.Read (code.Local 1))) ∷ [])) (code.Then (code.Println ((code.Shown (code.Binary (binaries.Arithmetic arithmetics.Add widths.Long) (code.Convert widths.Long (code.Binary (binaries.Arithmetic arithmetics.Add widths.Int) (code.Number widths.Int (pos 2147483647)) (code.Number widths.Int (pos 1)))) (code.Number widths.Long (pos 1)))) ∷ [])) (code.Then (code.Println ((code.Shown (code.Binary (binaries.Arithmetic arithmetics.Add widths.Long) (code.Binary (binaries.Arithmetic arithmetics.Add widths.Long) (code.Convert widths.Long (code.Number widths.Int (pos 2147483647))) (code.Number widths.Long (pos 1))) (code.Convert widths.Long (code.Number widths.Int (pos 1))))) ∷ [])) (code.Then (code.Println ((code.Shown (code.Binary (binaries.Arithmetic arithmetics.Divide widths.Long) (code.Number widths.Long (negsuc 9223372036854775807)) (code.Convert widths.Long (code.Number widths.Int (negsuc 0))))) ∷ [])) (code.Then (code.Println ((code.Shown (code.Binary (binaries.Arithmetic arithmetics.Remainder widths.Long) (code.Number widths.Long (negsuc 9223372036854775807)) (code.Number widths.Long (negsuc 0)))) ∷ [])) (code.Then (code.Println ((code.Shown (code.Binary (binaries.Arithmetic arithmetics.Add widths.Long) (code.Unary (unaries.Negate widths.Long) (code.Number widths.Long (negsuc 9223372036854775807))) (code.Binary (binaries.Arithmetic arithmetics.Multiply widths.Long) (code.Number widths.Long (pos 3037000500)) (code.Number widths.Long (pos 3037000500))))) ∷ [])) (code.Then (code.Println ((code.Shown (code.Binary (binaries.Arithmetic arithmetics.Add widths.Long) (code.Binary (binaries.Arithmetic arithmetics.Add widths.Long) (code.Binary (binaries.Arithmetic arithmetics.Add widths.Long) (code.Binary (binaries.Arithmetic arithmetics.Add widths.Long) (code.Binary (binaries.Arithmetic arithmetics.Add widths.Long) (code.Binary (binaries.Arithmetic arithmetics.Add widths.Long) (code.Binary (binaries.Shift shifts.RightUnsigned widths.Long) (code.Number widths.Long (negsuc 16)) (code.Number widths.Int (pos 28))) (code.Convert widths.Long (code.Binary (binaries.Shift shifts.RightUnsigned widths.Int) (code.Number widths.Int (negsuc 16)) (code.Number widths.Int (pos 28))))) (code.Binary (binaries.Shift shifts.Right widths.Long) (code.Number widths.Long (negsuc 16)) (code.Number widths.Int (pos 2)))) (code.Binary (binaries.Shift shifts.Left widths.Long) (code.Number widths.Long (pos 1)) (code.Number widths.Int (pos 31)))) (code.Convert widths.Long (code.Binary (binaries.Shift shifts.Left widths.Int) (code.Number widths.Int (pos 1)) (code.Convert widths.Int (code.Number widths.Long (pos 31)))))) (code.Binary (binaries.Shift shifts.Left widths.Long) (code.Number widths.Long (pos 1)) (code.Number widths.Int (pos 63)))) (code.Binary (binaries.Bitwise bitwises.Xor widths.Long) (code.Binary (binaries.Bitwise bitwises.And widths.Long) (code.Unary (unaries.Complement widths.Long) (code.Number widths.Long (pos 17))) (code.Convert widths.Long (code.Number widths.Int (pos 12)))) (code.Convert widths.Long (code.Number widths.Int (pos 3)))))) ∷ [])) (code.Then (code.Println ((code.Shown (code.Binary (binaries.Shift shifts.Left widths.Int) (code.Number widths.Int (pos 1)) (code.Convert widths.Int (code.Number widths.Long (negsuc 0))))) ∷ [])) (code.Then (code.Println ((code.Shown (code.Choice (code.Truth true) (code.Convert widths.Long (code.Read (code.Local 1))) (code.Read (code.Local 2)))) ∷ [])) (code.Then (code.Println ((code.Shown (code.And (code.And (code.And (code.And (code.And (code.Binary (binaries.Compare comparisons.Equal widths.Long) (code.Convert widths.Long (code.Read (code.Local 1))) (code.Number widths.Long (pos 3))) (code.Binary (binaries.Compare comparisons.NotEqual widths.Long) (code.Number widths.Long (pos 3)) (code.Read (code.Local 2)))) (code.Binary (binaries.Compare comparisons.Less widths.Long) (code.Convert widths.Long (code.Read (code.Local 1))) (code.Number widths.Long (pos 4)))) (code.Binary (binaries.Compare comparisons.LessEqual widths.Long) (code.Number widths.Long (pos 2)) (code.Convert widths.Long (code.Read (code.Local 1))))) (code.Binary (binaries.Compare comparisons.Greater widths.Long) (code.Read (code.Local 2)) (code.Convert widths.Long (code.Number widths.Int (pos 1))))) (code.Binary (binaries.Compare comparisons.GreaterEqual widths.Long) (code.Read (code.Local 2)) (code.Convert widths.Long (code.Read (code.Local 1)))))) ∷ [])) (code.Then (code.Do (code.Evaluate (code.Assign (code.ElementOf elems.Long (code.Read (code.FieldOf (code.Read (code.Local 0)) (record { 0 = 2 }))) (code.ResultOf (code.CallStatic (record { 0 = 4 }) (code.and_then (code.Number widths.Int (pos 1)) code.no_more)))) (code.Convert widths.Long (code.ResultOf (code.CallStatic (record { 0 = 4 }) (code.and_then (code.Number widths.Int (pos 2)) code.no_more))))))) (code.Then (code.Do (code.Evaluate (code.PostfixIncrement widths.Long (code.ElementOf elems.Long (code.Read (code.FieldOf (code.Read (code.Local 0)) (record { 0 = 2 }))) (code.Number widths.Int (pos 1))) (pos 1)))) (code.Then (code.Do (code.Evaluate (code.Assign (code.ElementOf elems.Long (code.Read (code.FieldOf (code.Read (code.Local 0)) (record { 0 = 2 }))) (code.Number widths.Int (pos 2))) (code.Binary (binaries.Arithmetic arithmetics.Add widths.Long) (code.Binary (binaries.Arithmetic arithmetics.Add widths.Long) (code.PostfixIncrement widths.Long (code.ElementOf elems.Long (code.Read (code.FieldOf (code.Read (code.Local 0)) (record { 0 = 2 }))) (code.Number widths.Int (pos 1))) (negsuc 0)) (code.PrefixIncrement widths.Long (code.ElementOf elems.Long (code.Read (code.FieldOf (code.Read (code.Local 0)) (record { 0 = 2 }))) (code.Number widths.Int (pos 0))) (pos 1))) (code.Convert widths.Long (code.LengthOf (code.Read (code.FieldOf (code.Read (code.Local 0)) (record { 0 = 2 }))))))))) (code.Then (code.Println ((code.Shown (code.Read (code.ElementOf elems.Long (code.Read (code.FieldOf (code.Read (code.Local 0)) (record { 0 = 2 }))) (code.Number widths.Int (pos 2))))) ∷ [])) (code.Then (code.Try (code.Do (code.Evaluate (code.Assign (code.Local 2) (code.Binary (binaries.Arithmetic arithmetics.Divide widths.Long) (code.Convert widths.Long (code.Number widths.Int (pos 1))) (code.Binary (binaries.Arithmetic arithmetics.Subtract widths.Long) (code.Read (code.Local 2)) (code.Read (code.Local 2))))))) (code.or_catch faults.ArithmeticException 3 (code.Println ((code.Literal (record { 0 = 4 })) ∷ [])) code.no_catch)) (code.Then (code.Try (code.Do (code.Evaluate (code.Compound (binaries.Arithmetic arithmetics.Remainder widths.Long) true (code.Local 1) (code.Number widths.Long (pos 0))))) (code.or_catch faults.ArithmeticException 4 (code.Println ((code.Shown (code.Read (code.Local 1))) ∷ [])) code.no_catch)) (code.Then (code.Assert (record { 0 = 3 }) (0 ∷ 1 ∷ 2 ∷ [])) (code.Then (code.Try (code.Do (code.Evaluate (code.Compound (binaries.Arithmetic arithmetics.Add widths.Long) false (code.ElementOf elems.Long (code.Read (code.FieldOf (code.Read (code.Local 0)) (record { 0 = 2 }))) (code.Number widths.Int (negsuc 0))) (code.Convert widths.Long (code.ResultOf (code.CallStatic (record { 0 = 4 }) (code.and_then (code.Number widths.Int (pos 5)) code.no_more))))))) (code.or_catch faults.ArrayIndexOutOfBoundsException 5 (code.Println ((code.Shown (code.Read (code.StaticField (record { 0 = 4 })))) ∷ [])) code.no_catch)) (code.Then (code.Try (code.Do (code.WaitFor (code.Read (code.StaticField (record { 0 = 5 }))) (code.Convert widths.Long (code.ResultOf (code.CallStatic (record { 0 = 4 }) (code.and_then (code.Number widths.Int (pos 6)) code.no_more)))))) (code.or_catch faults.NullPointerException 6 (code.Println ((code.Shown (code.Read (code.StaticField (record { 0 = 4 })))) ∷ [])) code.no_catch)) (code.Then (code.Try (code.Do (code.WaitFor (code.Read (code.StaticField (record { 0 = 5 }))) (code.Number widths.Long (negsuc 0)))) (code.or_catch faults.NullPointerException 7 (code.Println ((code.Literal (record { 0 = 5 })) ∷ [])) code.no_catch)) (code.Then (code.Do (code.Evaluate (code.Assign (code.StaticField (record { 0 = 5 })) code.NewPlain))) (code.Then (code.Try (code.Do (code.WaitFor (code.Read (code.StaticField (record { 0 = 5 }))) (code.Convert widths.Long (code.ResultOf (code.CallStatic (record { 0 = 4 }) (code.and_then (code.Number widths.Int (negsuc 6)) code.no_more)))))) (code.or_catch faults.IllegalArgumentException 8 (code.Println ((code.Shown (code.Read (code.StaticField (record { 0 = 4 })))) ∷ [])) code.no_catch)) (code.Then (code.Try (code.Do (code.WaitFor (code.Read (code.StaticField (record { 0 = 5 }))) (code.Number widths.Long (pos 5000000000)))) (code.or_catch faults.IllegalMonitorStateException 9 (code.Println ((code.Literal (record { 0 = 6 })) ∷ [])) code.no_catch)) (code.Then (code.Try (code.Do (code.WaitFor (code.Read (code.StaticField (record { 0 = 5 }))) (code.Convert widths.Long (code.Number widths.Int (pos 0))))) (code.or_catch faults.IllegalMonitorStateException 10 (code.Println ((code.Literal (record { 0 = 7 })) ∷ [])) code.no_catch)) (code.Then (code.Declare 11 (code.NewObject (record { 0 = 1 }) code.no_more)) (code.Then (code.Declare 12 (code.NewThread (code.Read (code.Local 11)))) (code.Then (code.Do (code.CallObject calls.Start (code.Read (code.Local 12)))) (code.Then (code.Synchronized (code.Read (code.Local 11)) (code.Do (code.WaitFor (code.Read (code.Local 11)) (code.Convert widths.Long (code.ResultOf (code.CallStatic (record { 0 = 4 }) (code.and_then (code.Number widths.Int (pos 8)) code.no_more))))))) (code.Then (code.Do (code.CallObject calls.Join (code.Read (code.Local 12)))) (code.Then (code.Synchronized (code.Read (code.StaticField (record { 0 = 5 }))) (code.Do (code.WaitFor (code.Read (code.StaticField (record { 0 = 5 }))) (code.Binary (binaries.Arithmetic arithmetics.Add widths.Long) (code.Number widths.Long (pos 0)) (code.Convert widths.Long (code.Number widths.Int (pos 1))))))) (code.Then (code.Declare 13 (code.Number widths.Long (pos 0))) (code.Then (code.Println ((code.Shown (code.Read (code.Local 13))) ∷ [])) (code.Then (code.Do (code.Sleep (code.Number widths.Int (pos 1)))) (code.Then (code.Do (code.Evaluate (code.Assign (code.ElementOf elems.Long (code.Read (code.FieldOf (code.Read (code.Local 0)) (record { 0 = 2 }))) (code.Number widths.Int (pos 0))) (code.Convert widths.Long (code.Number widths.Int (pos 2147483647)))))) (code.Then (code.Do (code.Evaluate (code.PostfixIncrement widths.Long (code.ElementOf elems.Long (code.Read (code.FieldOf (code.Read (code.Local 0)) (record { 0 = 2 }))) (code.Number widths.Int (pos 0))) (pos 1)))) (code.Then (code.Println ((code.Shown (code.PrefixIncrement widths.Long (code.ElementOf elems.Long (code.Read (code.FieldOf (code.Read (code.Local 0)) (record { 0 = 2 }))) (code.Number widths.Int (pos 0))) (pos 1))) ∷ [])) (code.Then (code.Println ((code.Shown (code.PostfixIncrement widths.Long (code.ElementOf elems.Long (code.Read (code.FieldOf (code.Read (code.Local 0)) (record { 0 = 2 }))) (code.Number widths.Int (pos 0))) (negsuc 0))) ∷ [])) (code.Then (code.Do (code.Evaluate (code.Assign (code.StaticField (record { 0 = 1 })) (code.Number widths.Long (negsuc 9223372036854775807))))) (code.Then (code.Println ((code.Shown (code.Binary (binaries.Arithmetic arithmetics.Add widths.Long) (code.PostfixIncrement widths.Long (code.StaticField (record { 0 = 1 })) (negsuc 0)) (code.PrefixIncrement widths.Long (code.StaticField (record { 0 = 1 })) (negsuc 0)))) ∷ [])) (code.Then (code.Do (code.Evaluate (code.Assign (code.FieldOf (code.Read (code.Local 0)) (record { 0 = 3 })) (code.Number widths.Int (pos 2147483647))))) (code.Then (code.Println ((code.Shown (code.PrefixIncrement widths.Int (code.FieldOf (code.Read (code.Local 0)) (record { 0 = 3 })) (pos 1))) ∷ [])) (code.Then (code.Println ((code.Shown (code.PostfixIncrement widths.Int (code.FieldOf (code.Read (code.Local 0)) (record { 0 = 3 })) (negsuc 0))) ∷ [])) (code.Println ((code.Shown (code.Read (code.FieldOf (code.Read (code.Local 0)) (record { 0 = 3 })))) ∷ [])))))))))))))))))))))))))))))))))))))))))))))))))))))))))))))))))))))))))));
      }
      ∷ [];
  clauses =
      record { kind = clauses.Requires; owner = (specs.OfMethod (record { 0 = 1 })); mode = modes.Safe; is_static = false; place = record { line = 7; column = 7 }; states = ((specs.And (specs.Binary (binaries.Compare comparisons.LessEqual widths.Long) (specs.Variable 0) (specs.Number widths.Long (pos 9223372036854775807))) (specs.Binary (binaries.Compare comparisons.Less widths.Long) (specs.Number widths.Long (negsuc 9223372036854775807)) (specs.Binary (binaries.Arithmetic arithmetics.Add widths.Long) (specs.Variable 0) (specs.FieldOf specs.This (record { 0 = 0 }) 0)))) ∷ []) }
      ∷ record { kind = clauses.Ensures; owner = (specs.OfMethod (record { 0 = 1 })); mode = modes.Safe; is_static = false; place = record { line = 8; column = 7 }; states = ((specs.And (specs.And (specs.And (specs.Binary (binaries.Compare comparisons.Equal widths.Long) specs.Result (specs.Binary (binaries.Arithmetic arithmetics.Add widths.Long) (specs.Old (specs.FieldOf specs.This (record { 0 = 0 }) 0)) (specs.Variable 0))) (specs.Binary (binaries.Compare comparisons.NotEqual widths.Long) (specs.Choice (specs.Binary (binaries.Compare comparisons.Greater widths.Long) (specs.Variable 0) (specs.Convert widths.Long (specs.Number widths.Int (pos 0)))) (specs.FieldOf specs.This (record { 0 = 0 }) 0) (specs.Convert widths.Long (specs.Number widths.Int (pos 5)))) (specs.Convert widths.Long (specs.Number widths.Int (pos 0))))) (specs.Binary (binaries.Compare comparisons.NotEqual widths.Long) (specs.Binary (binaries.Shift shifts.Left widths.Long) (specs.FieldOf specs.This (record { 0 = 0 }) 0) (specs.Convert widths.Int (specs.Number widths.Long (pos 3)))) (specs.Convert widths.Long (specs.Number widths.Int (pos 1))))) (specs.Binary (binaries.Compare comparisons.NotEqual widths.Long) (specs.Unary (unaries.Negate widths.Long) (specs.FieldOf specs.This (record { 0 = 0 }) 0)) (specs.Binary (binaries.Arithmetic arithmetics.Remainder widths.Long) (specs.Unary (unaries.Complement widths.Long) (specs.FieldOf specs.This (record { 0 = 0 }) 0)) (specs.Convert widths.Long (specs.Number widths.Int (pos 3)))))) ∷ []) }
      ∷ record { kind = clauses.Assert; owner = (specs.OfMethod (record { 0 = 6 })); mode = modes.Java; is_static = true; place = record { line = 50; column = 9 }; states = ((specs.Or (specs.Binary (binaries.Compare comparisons.Equal widths.Long) (specs.Variable 2) (specs.Number widths.Long (negsuc 9223372036854775807))) (specs.Binary (binaries.Compare comparisons.Greater widths.Long) (specs.Binary (binaries.Arithmetic arithmetics.Add widths.Long) (specs.Convert widths.Long (specs.Variable 1)) (specs.Number widths.Long (pos 1))) (specs.Convert widths.Long (specs.Variable 1)))) ∷ []) }
      ∷ [];
  notes = [];
  texts = ([] ∷ (32 ∷ []) ∷ (121 ∷ 32 ∷ []) ∷ (32 ∷ []) ∷ (122 ∷ 101 ∷ 114 ∷ 111 ∷ []) ∷ (110 ∷ 117 ∷ 108 ∷ 108 ∷ []) ∷ (111 ∷ 119 ∷ 110 ∷ 101 ∷ 114 ∷ []) ∷ (111 ∷ 119 ∷ 110 ∷ 101 ∷ 114 ∷ []) ∷ []);
  main = (record { 0 = 6 });
}

abbrev pub journal : List Event
journal =
    made 1 (deeds.Call (record { 0 = 6 }) None []) replies.Unit
    ∷ made 1 (deeds.New (makes.Object (record { 0 = 0 }))) (replies.Made (record { 0 = 3 }))
    ∷ made 1 (deeds.Call (record { 0 = 0 }) (Some (record { 0 = 3 })) ((values.Long (pos 2147483647)) ∷ [])) replies.Unit
    ∷ made 1 (deeds.Put (record { obj = (record { 0 = 3 }); slot = 0 }) (values.Long (pos 2147483647))) replies.Unit
    ∷ made 1 (deeds.New (makes.Array elems.Long 3)) (replies.Made (record { 0 = 4 }))
    ∷ made 1 (deeds.Put (record { obj = (record { 0 = 3 }); slot = 1 }) (values.Ref (record { 0 = 4 }))) replies.Unit
    ∷ made 1 (deeds.Leave (record { 0 = 0 }) (leaves.Normal None)) replies.Unit
    ∷ made 1 (deeds.Call (record { 0 = 4 }) None ((values.Int (pos 4)) ∷ [])) replies.Unit
    ∷ made 1 (deeds.Get (record { obj = (record { 0 = 2 }); slot = 0 })) (replies.Value (values.Int (pos 0)))
    ∷ made 1 (deeds.Put (record { obj = (record { 0 = 2 }); slot = 0 }) (values.Int (pos 4))) replies.Unit
    ∷ made 1 (deeds.Leave (record { 0 = 4 }) (leaves.Normal (Some (values.Int (pos 4))))) replies.Unit
    ∷ made 1 (deeds.Enter (record { 0 = 3 }) ways.Method) replies.Unit
    ∷ made 1 (deeds.Call (record { 0 = 1 }) (Some (record { 0 = 3 })) ((values.Long (pos 4)) ∷ [])) replies.Unit
    ∷ judged 12 0 verdicts.True
    ∷ made 1 (deeds.Get (record { obj = (record { 0 = 3 }); slot = 0 })) (replies.Value (values.Long (pos 2147483647)))
    ∷ made 1 (deeds.Put (record { obj = (record { 0 = 3 }); slot = 0 }) (values.Long (pos 2147483651))) replies.Unit
    ∷ made 1 (deeds.Get (record { obj = (record { 0 = 3 }); slot = 0 })) (replies.Value (values.Long (pos 2147483651)))
    ∷ made 1 (deeds.Leave (record { 0 = 1 }) (leaves.Normal (Some (values.Long (pos 2147483651))))) replies.Unit
    ∷ judged 16 0 verdicts.True
    ∷ made 1 (deeds.Exit (record { 0 = 3 })) replies.Unit
    ∷ made 1 (deeds.Call (record { 0 = 2 }) (Some (record { 0 = 3 })) []) replies.Unit
    ∷ made 1 (deeds.Get (record { obj = (record { 0 = 3 }); slot = 2 })) (replies.Value (values.Int (pos 2147483647)))
    ∷ made 1 (deeds.Leave (record { 0 = 2 }) (leaves.Normal (Some (values.Int (pos 2147483647))))) replies.Unit
    ∷ made 1 (deeds.Call (record { 0 = 3 }) (Some (record { 0 = 3 })) []) replies.Unit
    ∷ made 1 (deeds.Get (record { obj = (record { 0 = 3 }); slot = 2 })) (replies.Value (values.Int (pos 2147483647)))
    ∷ made 1 (deeds.Leave (record { 0 = 3 }) (leaves.Normal (Some (values.Long (pos 2147483647))))) replies.Unit
    ∷ made 1 (deeds.Get (record { obj = (record { 0 = 1 }); slot = 0 })) (replies.Value (values.Long (pos 7)))
    ∷ made 1 (deeds.Print ((shows.Text (record { 0 = 0 })) ∷ (shows.Val (values.Long (pos 4294967298))) ∷ (shows.Text (record { 0 = 1 })) ∷ (shows.Val (values.Long (pos 2147483647))) ∷ (shows.Val (values.Long (pos 7))) ∷ [])) replies.Unit
    ∷ made 1 (deeds.Get (record { obj = (record { 0 = 3 }); slot = 0 })) (replies.Value (values.Long (pos 2147483651)))
    ∷ made 1 (deeds.Put (record { obj = (record { 0 = 3 }); slot = 0 }) (values.Long (pos 25769803776))) replies.Unit
    ∷ made 1 (deeds.Get (record { obj = (record { 0 = 3 }); slot = 0 })) (replies.Value (values.Long (pos 25769803776)))
    ∷ made 1 (deeds.Put (record { obj = (record { 0 = 3 }); slot = 0 }) (values.Long (pos 12884901888))) replies.Unit
    ∷ made 1 (deeds.Get (record { obj = (record { 0 = 3 }); slot = 0 })) (replies.Value (values.Long (pos 12884901888)))
    ∷ made 1 (deeds.Put (record { obj = (record { 0 = 3 }); slot = 0 }) (values.Long (pos 0))) replies.Unit
    ∷ made 1 (deeds.Get (record { obj = (record { 0 = 3 }); slot = 0 })) (replies.Value (values.Long (pos 0)))
    ∷ made 1 (deeds.Put (record { obj = (record { 0 = 3 }); slot = 0 }) (values.Long (pos 8))) replies.Unit
    ∷ made 1 (deeds.Get (record { obj = (record { 0 = 3 }); slot = 0 })) (replies.Value (values.Long (pos 8)))
    ∷ made 1 (deeds.Put (record { obj = (record { 0 = 3 }); slot = 0 }) (values.Long (pos 8))) replies.Unit
    ∷ made 1 (deeds.Get (record { obj = (record { 0 = 3 }); slot = 0 })) (replies.Value (values.Long (pos 8)))
    ∷ made 1 (deeds.Put (record { obj = (record { 0 = 3 }); slot = 0 }) (values.Long (pos 3))) replies.Unit
    ∷ made 1 (deeds.Get (record { obj = (record { 0 = 3 }); slot = 0 })) (replies.Value (values.Long (pos 3)))
    ∷ made 1 (deeds.Put (record { obj = (record { 0 = 3 }); slot = 0 }) (values.Long (pos 6))) replies.Unit
    ∷ made 1 (deeds.Get (record { obj = (record { 0 = 3 }); slot = 0 })) (replies.Value (values.Long (pos 6)))
    ∷ made 1 (deeds.Put (record { obj = (record { 0 = 3 }); slot = 0 }) (values.Long (pos 12884901882))) replies.Unit
    ∷ made 1 (deeds.Get (record { obj = (record { 0 = 3 }); slot = 0 })) (replies.Value (values.Long (pos 12884901882)))
    ∷ made 1 (deeds.Put (record { obj = (record { 0 = 3 }); slot = 0 }) (values.Long (pos 4294967294))) replies.Unit
    ∷ made 1 (deeds.Get (record { obj = (record { 0 = 3 }); slot = 0 })) (replies.Value (values.Long (pos 4294967294)))
    ∷ made 1 (deeds.Print ((shows.Val (values.Long (pos 4294967294))) ∷ [])) replies.Unit
    ∷ made 1 (deeds.Get (record { obj = (record { 0 = 3 }); slot = 2 })) (replies.Value (values.Int (pos 2147483647)))
    ∷ made 1 (deeds.Put (record { obj = (record { 0 = 3 }); slot = 2 }) (values.Int (pos 2147483646))) replies.Unit
    ∷ made 1 (deeds.Get (record { obj = (record { 0 = 3 }); slot = 2 })) (replies.Value (values.Int (pos 2147483646)))
    ∷ made 1 (deeds.Print ((shows.Val (values.Int (pos 2147483646))) ∷ [])) replies.Unit
    ∷ made 1 (deeds.Get (record { obj = (record { 0 = 3 }); slot = 2 })) (replies.Value (values.Int (pos 2147483646)))
    ∷ made 1 (deeds.Put (record { obj = (record { 0 = 3 }); slot = 2 }) (values.Int (pos 2147483642))) replies.Unit
    ∷ made 1 (deeds.Get (record { obj = (record { 0 = 3 }); slot = 2 })) (replies.Value (values.Int (pos 2147483642)))
    ∷ made 1 (deeds.Put (record { obj = (record { 0 = 3 }); slot = 2 }) (values.Int (pos 1442450938))) replies.Unit
    ∷ made 1 (deeds.Get (record { obj = (record { 0 = 3 }); slot = 2 })) (replies.Value (values.Int (pos 1442450938)))
    ∷ made 1 (deeds.Put (record { obj = (record { 0 = 3 }); slot = 2 }) (values.Int (pos 206064419))) replies.Unit
    ∷ made 1 (deeds.Get (record { obj = (record { 0 = 3 }); slot = 2 })) (replies.Value (values.Int (pos 206064419)))
    ∷ made 1 (deeds.Put (record { obj = (record { 0 = 3 }); slot = 2 }) (values.Int (pos 19))) replies.Unit
    ∷ made 1 (deeds.Get (record { obj = (record { 0 = 3 }); slot = 2 })) (replies.Value (values.Int (pos 19)))
    ∷ made 1 (deeds.Put (record { obj = (record { 0 = 3 }); slot = 2 }) (values.Int (pos 19))) replies.Unit
    ∷ made 1 (deeds.Get (record { obj = (record { 0 = 3 }); slot = 2 })) (replies.Value (values.Int (pos 19)))
    ∷ made 1 (deeds.Put (record { obj = (record { 0 = 3 }); slot = 2 }) (values.Int (pos 19))) replies.Unit
    ∷ made 1 (deeds.Get (record { obj = (record { 0 = 3 }); slot = 2 })) (replies.Value (values.Int (pos 19)))
    ∷ made 1 (deeds.Put (record { obj = (record { 0 = 3 }); slot = 2 }) (values.Int (negsuc 19))) replies.Unit
    ∷ made 1 (deeds.Get (record { obj = (record { 0 = 3 }); slot = 2 })) (replies.Value (values.Int (negsuc 19)))
    ∷ made 1 (deeds.Put (record { obj = (record { 0 = 3 }); slot = 2 }) (values.Int (negsuc 39))) replies.Unit
    ∷ made 1 (deeds.Get (record { obj = (record { 0 = 3 }); slot = 2 })) (replies.Value (values.Int (negsuc 39)))
    ∷ made 1 (deeds.Put (record { obj = (record { 0 = 3 }); slot = 2 }) (values.Int (negsuc 19))) replies.Unit
    ∷ made 1 (deeds.Get (record { obj = (record { 0 = 3 }); slot = 2 })) (replies.Value (values.Int (negsuc 19)))
    ∷ made 1 (deeds.Put (record { obj = (record { 0 = 3 }); slot = 2 }) (values.Int (pos 1))) replies.Unit
    ∷ made 1 (deeds.Get (record { obj = (record { 0 = 3 }); slot = 2 })) (replies.Value (values.Int (pos 1)))
    ∷ made 1 (deeds.Print ((shows.Val (values.Int (pos 1))) ∷ [])) replies.Unit
    ∷ made 1 (deeds.Print ((shows.Val (values.Int (pos 10))) ∷ [])) replies.Unit
    ∷ made 1 (deeds.Print ((shows.Text (record { 0 = 2 })) ∷ (shows.Val (values.Long (pos 6))) ∷ (shows.Text (record { 0 = 3 })) ∷ (shows.Val (values.Int (pos 3))) ∷ [])) replies.Unit
    ∷ made 1 (deeds.Print ((shows.Val (values.Long (negsuc 2147483646))) ∷ [])) replies.Unit
    ∷ made 1 (deeds.Print ((shows.Val (values.Long (pos 2147483649))) ∷ [])) replies.Unit
    ∷ made 1 (deeds.Print ((shows.Val (values.Long (negsuc 9223372036854775807))) ∷ [])) replies.Unit
    ∷ made 1 (deeds.Print ((shows.Val (values.Long (pos 0))) ∷ [])) replies.Unit
    ∷ made 1 (deeds.Print ((shows.Val (values.Long (pos 145474192))) ∷ [])) replies.Unit
    ∷ made 1 (deeds.Print ((shows.Val (values.Long (negsuc 9223371968135299047))) ∷ [])) replies.Unit
    ∷ made 1 (deeds.Print ((shows.Val (values.Int (negsuc 2147483647))) ∷ [])) replies.Unit
    ∷ made 1 (deeds.Print ((shows.Val (values.Long (pos 3))) ∷ [])) replies.Unit
    ∷ made 1 (deeds.Print ((shows.Val (values.Bool true)) ∷ [])) replies.Unit
    ∷ made 1 (deeds.Get (record { obj = (record { 0 = 3 }); slot = 1 })) (replies.Value (values.Ref (record { 0 = 4 })))
    ∷ made 1 (deeds.Call (record { 0 = 4 }) None ((values.Int (pos 1)) ∷ [])) replies.Unit
    ∷ made 1 (deeds.Get (record { obj = (record { 0 = 2 }); slot = 0 })) (replies.Value (values.Int (pos 4)))
    ∷ made 1 (deeds.Put (record { obj = (record { 0 = 2 }); slot = 0 }) (values.Int (pos 41))) replies.Unit
    ∷ made 1 (deeds.Leave (record { 0 = 4 }) (leaves.Normal (Some (values.Int (pos 1))))) replies.Unit
    ∷ made 1 (deeds.Call (record { 0 = 4 }) None ((values.Int (pos 2)) ∷ [])) replies.Unit
    ∷ made 1 (deeds.Get (record { obj = (record { 0 = 2 }); slot = 0 })) (replies.Value (values.Int (pos 41)))
    ∷ made 1 (deeds.Put (record { obj = (record { 0 = 2 }); slot = 0 }) (values.Int (pos 412))) replies.Unit
    ∷ made 1 (deeds.Leave (record { 0 = 4 }) (leaves.Normal (Some (values.Int (pos 2))))) replies.Unit
    ∷ made 1 (deeds.Put (record { obj = (record { 0 = 4 }); slot = 1 }) (values.Long (pos 2))) replies.Unit
    ∷ made 1 (deeds.Get (record { obj = (record { 0 = 3 }); slot = 1 })) (replies.Value (values.Ref (record { 0 = 4 })))
    ∷ made 1 (deeds.Get (record { obj = (record { 0 = 4 }); slot = 1 })) (replies.Value (values.Long (pos 2)))
    ∷ made 1 (deeds.Put (record { obj = (record { 0 = 4 }); slot = 1 }) (values.Long (pos 3))) replies.Unit
    ∷ made 1 (deeds.Get (record { obj = (record { 0 = 3 }); slot = 1 })) (replies.Value (values.Ref (record { 0 = 4 })))
    ∷ made 1 (deeds.Get (record { obj = (record { 0 = 3 }); slot = 1 })) (replies.Value (values.Ref (record { 0 = 4 })))
    ∷ made 1 (deeds.Get (record { obj = (record { 0 = 4 }); slot = 1 })) (replies.Value (values.Long (pos 3)))
    ∷ made 1 (deeds.Put (record { obj = (record { 0 = 4 }); slot = 1 }) (values.Long (pos 2))) replies.Unit
    ∷ made 1 (deeds.Get (record { obj = (record { 0 = 3 }); slot = 1 })) (replies.Value (values.Ref (record { 0 = 4 })))
    ∷ made 1 (deeds.Get (record { obj = (record { 0 = 4 }); slot = 0 })) (replies.Value (values.Long (pos 0)))
    ∷ made 1 (deeds.Put (record { obj = (record { 0 = 4 }); slot = 0 }) (values.Long (pos 1))) replies.Unit
    ∷ made 1 (deeds.Get (record { obj = (record { 0 = 3 }); slot = 1 })) (replies.Value (values.Ref (record { 0 = 4 })))
    ∷ made 1 (deeds.Len (record { 0 = 4 })) (replies.Value (values.Int (pos 3)))
    ∷ made 1 (deeds.Put (record { obj = (record { 0 = 4 }); slot = 2 }) (values.Long (pos 7))) replies.Unit
    ∷ made 1 (deeds.Get (record { obj = (record { 0 = 3 }); slot = 1 })) (replies.Value (values.Ref (record { 0 = 4 })))
    ∷ made 1 (deeds.Get (record { obj = (record { 0 = 4 }); slot = 2 })) (replies.Value (values.Long (pos 7)))
    ∷ made 1 (deeds.Print ((shows.Val (values.Long (pos 7))) ∷ [])) replies.Unit
    ∷ made 1 (deeds.Print ((shows.Text (record { 0 = 4 })) ∷ [])) replies.Unit
    ∷ made 1 (deeds.Print ((shows.Val (values.Int (pos 3))) ∷ [])) replies.Unit
    ∷ made 1 (deeds.Assert (record { 0 = 3 }) (values.Null ∷ (values.Ref (record { 0 = 3 })) ∷ (values.Int (pos 3)) ∷ (values.Long (pos 6)) ∷ [])) replies.Unit
    ∷ judged 111 0 verdicts.True
    ∷ made 1 (deeds.Get (record { obj = (record { 0 = 3 }); slot = 1 })) (replies.Value (values.Ref (record { 0 = 4 })))
    ∷ made 1 (deeds.Get (record { obj = (record { 0 = 4 }); slot = 4294967295 })) replies.Range
    ∷ made 1 (deeds.Get (record { obj = (record { 0 = 2 }); slot = 0 })) (replies.Value (values.Int (pos 412)))
    ∷ made 1 (deeds.Print ((shows.Val (values.Int (pos 412))) ∷ [])) replies.Unit
    ∷ made 1 (deeds.Get (record { obj = (record { 0 = 2 }); slot = 1 })) (replies.Value values.Null)
    ∷ made 1 (deeds.Call (record { 0 = 4 }) None ((values.Int (pos 6)) ∷ [])) replies.Unit
    ∷ made 1 (deeds.Get (record { obj = (record { 0 = 2 }); slot = 0 })) (replies.Value (values.Int (pos 412)))
    ∷ made 1 (deeds.Put (record { obj = (record { 0 = 2 }); slot = 0 }) (values.Int (pos 4126))) replies.Unit
    ∷ made 1 (deeds.Leave (record { 0 = 4 }) (leaves.Normal (Some (values.Int (pos 6))))) replies.Unit
    ∷ made 1 (deeds.Get (record { obj = (record { 0 = 2 }); slot = 0 })) (replies.Value (values.Int (pos 4126)))
    ∷ made 1 (deeds.Print ((shows.Val (values.Int (pos 4126))) ∷ [])) replies.Unit
    ∷ made 1 (deeds.Get (record { obj = (record { 0 = 2 }); slot = 1 })) (replies.Value values.Null)
    ∷ made 1 (deeds.Print ((shows.Text (record { 0 = 5 })) ∷ [])) replies.Unit
    ∷ made 1 (deeds.New makes.Plain) (replies.Made (record { 0 = 5 }))
    ∷ made 1 (deeds.Put (record { obj = (record { 0 = 2 }); slot = 1 }) (values.Ref (record { 0 = 5 }))) replies.Unit
    ∷ made 1 (deeds.Get (record { obj = (record { 0 = 2 }); slot = 1 })) (replies.Value (values.Ref (record { 0 = 5 })))
    ∷ made 1 (deeds.Call (record { 0 = 4 }) None ((values.Int (negsuc 6)) ∷ [])) replies.Unit
    ∷ made 1 (deeds.Get (record { obj = (record { 0 = 2 }); slot = 0 })) (replies.Value (values.Int (pos 4126)))
    ∷ made 1 (deeds.Put (record { obj = (record { 0 = 2 }); slot = 0 }) (values.Int (pos 41253))) replies.Unit
    ∷ made 1 (deeds.Leave (record { 0 = 4 }) (leaves.Normal (Some (values.Int (negsuc 6))))) replies.Unit
    ∷ made 1 (deeds.Get (record { obj = (record { 0 = 2 }); slot = 0 })) (replies.Value (values.Int (pos 41253)))
    ∷ made 1 (deeds.Print ((shows.Val (values.Int (pos 41253))) ∷ [])) replies.Unit
    ∷ made 1 (deeds.Get (record { obj = (record { 0 = 2 }); slot = 1 })) (replies.Value (values.Ref (record { 0 = 5 })))
    ∷ made 1 (deeds.TimedWait (record { 0 = 5 })) replies.Illegal
    ∷ made 1 (deeds.Print ((shows.Text (record { 0 = 6 })) ∷ [])) replies.Unit
    ∷ made 1 (deeds.Get (record { obj = (record { 0 = 2 }); slot = 1 })) (replies.Value (values.Ref (record { 0 = 5 })))
    ∷ made 1 (deeds.Wait (record { 0 = 5 })) replies.Illegal
    ∷ made 1 (deeds.Print ((shows.Text (record { 0 = 7 })) ∷ [])) replies.Unit
    ∷ made 1 (deeds.New (makes.Object (record { 0 = 1 }))) (replies.Made (record { 0 = 6 }))
    ∷ made 1 (deeds.New makes.Thread) (replies.Made (record { 0 = 7 }))
    ∷ made 1 (deeds.Put (record { obj = (record { 0 = 7 }); slot = 0 }) (values.Ref (record { 0 = 6 }))) replies.Unit
    ∷ made 1 (deeds.Start (record { 0 = 7 })) (replies.Started (record { 0 = 2 }) (Some (record { method = (record { 0 = 5 }); this = (Some (record { 0 = 6 })) })))
    ∷ made 1 (deeds.Enter (record { 0 = 6 }) ways.Block) replies.Unit
    ∷ made 1 (deeds.Call (record { 0 = 4 }) None ((values.Int (pos 8)) ∷ [])) replies.Unit
    ∷ made 1 (deeds.Get (record { obj = (record { 0 = 2 }); slot = 0 })) (replies.Value (values.Int (pos 41253)))
    ∷ made 1 (deeds.Put (record { obj = (record { 0 = 2 }); slot = 0 }) (values.Int (pos 412538))) replies.Unit
    ∷ made 1 (deeds.Leave (record { 0 = 4 }) (leaves.Normal (Some (values.Int (pos 8))))) replies.Unit
    ∷ made 1 (deeds.TimedWait (record { 0 = 6 })) replies.Unit
    ∷ made 2 (deeds.Call (record { 0 = 5 }) (Some (record { 0 = 6 })) []) replies.Unit
    ∷ made 2 (deeds.Enter (record { 0 = 6 }) ways.Block) replies.Unit
    ∷ made 2 (deeds.TimedWait (record { 0 = 6 })) replies.Unit
    ∷ woke 1
    ∷ made 1 (deeds.Resume (record { 0 = 6 })) replies.Unit
    ∷ made 1 (deeds.Exit (record { 0 = 6 })) replies.Unit
    ∷ woke 2
    ∷ made 2 (deeds.Resume (record { 0 = 6 })) replies.Unit
    ∷ made 2 (deeds.NotifyAll (record { 0 = 6 })) replies.Unit
    ∷ made 2 (deeds.Exit (record { 0 = 6 })) replies.Unit
    ∷ made 2 (deeds.Leave (record { 0 = 5 }) (leaves.Normal None)) replies.Unit
    ∷ made 2 (deeds.End ends.Normal) replies.Unit
    ∷ made 1 (deeds.Join (record { 0 = 7 })) replies.Unit
    ∷ made 1 (deeds.Get (record { obj = (record { 0 = 2 }); slot = 1 })) (replies.Value (values.Ref (record { 0 = 5 })))
    ∷ made 1 (deeds.Enter (record { 0 = 5 }) ways.Block) replies.Unit
    ∷ made 1 (deeds.Get (record { obj = (record { 0 = 2 }); slot = 1 })) (replies.Value (values.Ref (record { 0 = 5 })))
    ∷ made 1 (deeds.TimedWait (record { 0 = 5 })) replies.Unit
    ∷ woke 1
    ∷ made 1 (deeds.Resume (record { 0 = 5 })) replies.Unit
    ∷ made 1 (deeds.Exit (record { 0 = 5 })) replies.Unit
    ∷ made 1 (deeds.Print ((shows.Val (values.Long (pos 0))) ∷ [])) replies.Unit
    ∷ made 1 (deeds.Back) replies.Unit
    ∷ made 1 (deeds.Get (record { obj = (record { 0 = 3 }); slot = 1 })) (replies.Value (values.Ref (record { 0 = 4 })))
    ∷ made 1 (deeds.Put (record { obj = (record { 0 = 4 }); slot = 0 }) (values.Long (pos 2147483647))) replies.Unit
    ∷ made 1 (deeds.Get (record { obj = (record { 0 = 3 }); slot = 1 })) (replies.Value (values.Ref (record { 0 = 4 })))
    ∷ made 1 (deeds.Get (record { obj = (record { 0 = 4 }); slot = 0 })) (replies.Value (values.Long (pos 2147483647)))
    ∷ made 1 (deeds.Put (record { obj = (record { 0 = 4 }); slot = 0 }) (values.Long (pos 2147483648))) replies.Unit
    ∷ made 1 (deeds.Get (record { obj = (record { 0 = 3 }); slot = 1 })) (replies.Value (values.Ref (record { 0 = 4 })))
    ∷ made 1 (deeds.Get (record { obj = (record { 0 = 4 }); slot = 0 })) (replies.Value (values.Long (pos 2147483648)))
    ∷ made 1 (deeds.Put (record { obj = (record { 0 = 4 }); slot = 0 }) (values.Long (pos 2147483649))) replies.Unit
    ∷ made 1 (deeds.Print ((shows.Val (values.Long (pos 2147483649))) ∷ [])) replies.Unit
    ∷ made 1 (deeds.Get (record { obj = (record { 0 = 3 }); slot = 1 })) (replies.Value (values.Ref (record { 0 = 4 })))
    ∷ made 1 (deeds.Get (record { obj = (record { 0 = 4 }); slot = 0 })) (replies.Value (values.Long (pos 2147483649)))
    ∷ made 1 (deeds.Put (record { obj = (record { 0 = 4 }); slot = 0 }) (values.Long (pos 2147483648))) replies.Unit
    ∷ made 1 (deeds.Print ((shows.Val (values.Long (pos 2147483649))) ∷ [])) replies.Unit
    ∷ made 1 (deeds.Put (record { obj = (record { 0 = 1 }); slot = 0 }) (values.Long (negsuc 9223372036854775807))) replies.Unit
    ∷ made 1 (deeds.Get (record { obj = (record { 0 = 1 }); slot = 0 })) (replies.Value (values.Long (negsuc 9223372036854775807)))
    ∷ made 1 (deeds.Put (record { obj = (record { 0 = 1 }); slot = 0 }) (values.Long (pos 9223372036854775807))) replies.Unit
    ∷ made 1 (deeds.Get (record { obj = (record { 0 = 1 }); slot = 0 })) (replies.Value (values.Long (pos 9223372036854775807)))
    ∷ made 1 (deeds.Put (record { obj = (record { 0 = 1 }); slot = 0 }) (values.Long (pos 9223372036854775806))) replies.Unit
    ∷ made 1 (deeds.Print ((shows.Val (values.Long (negsuc 1))) ∷ [])) replies.Unit
    ∷ made 1 (deeds.Put (record { obj = (record { 0 = 3 }); slot = 2 }) (values.Int (pos 2147483647))) replies.Unit
    ∷ made 1 (deeds.Get (record { obj = (record { 0 = 3 }); slot = 2 })) (replies.Value (values.Int (pos 2147483647)))
    ∷ made 1 (deeds.Put (record { obj = (record { 0 = 3 }); slot = 2 }) (values.Int (negsuc 2147483647))) replies.Unit
    ∷ made 1 (deeds.Print ((shows.Val (values.Int (negsuc 2147483647))) ∷ [])) replies.Unit
    ∷ made 1 (deeds.Get (record { obj = (record { 0 = 3 }); slot = 2 })) (replies.Value (values.Int (negsuc 2147483647)))
    ∷ made 1 (deeds.Put (record { obj = (record { 0 = 3 }); slot = 2 }) (values.Int (pos 2147483647))) replies.Unit
    ∷ made 1 (deeds.Print ((shows.Val (values.Int (negsuc 2147483647))) ∷ [])) replies.Unit
    ∷ made 1 (deeds.Get (record { obj = (record { 0 = 3 }); slot = 2 })) (replies.Value (values.Int (pos 2147483647)))
    ∷ made 1 (deeds.Print ((shows.Val (values.Int (pos 2147483647))) ∷ [])) replies.Unit
    ∷ made 1 (deeds.Leave (record { 0 = 6 }) (leaves.Normal None)) replies.Unit
    ∷ made 1 (deeds.End ends.Normal) replies.Unit
    ∷ []

abbrev pub finish : Finish
finish = finishes.Finished

pub is_serial : serial program 200000 0 0 ≡ record { history = journal; finish = finish }
unfolding int_wrap
is_serial = refl

pub is_right : IsRightRun program 200000 (record { history = journal; finish = finish })
is_right = subst (IsRightRun program 200000) is_serial (serial-right program 200000 0 0)
