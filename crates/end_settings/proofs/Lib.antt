mod Fitness
