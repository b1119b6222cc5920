-- `Plan`: how a plan in code stands for an effect of paper 01's definitions. `Place`: what a parameter comes to as a number.
pub mod Plan
pub mod Place
